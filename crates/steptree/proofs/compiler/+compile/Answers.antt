use Rattle.std.proofs.Common.{◌<◌, ◌-◌, length, ap, arith}
use Rattle.steptree.specs.Tree.{block_size}
use Rattle.steptree.specs.BlocksFall.{no_larger}
use Rattle.steptree.proofs.Coded.{stays, keeps_on}
use Rattle.steptree.proofs.compiler.+compile.Goals as goal

pub choose-returns-clause-code : goal.choose-returns-clause-code
choose-returns-clause-code t c = λ rest stop is.
    let last = keeps_on _ _ _ c.in_ok-second.ensures.keeps c.in_ok-at.ensures.keeps in (
      c.in_ok-condition.condition,
      c.in_ok-first.first,
      c.in_ok-second.second,
      c.args.next,
      c.in_ok-at.ensures.stands,
      c.in_ok-condition.ensures,
      stays _ _ last c.in_ok-first.first c.args.first.now c.args.next c.in_ok-first.ensures.code,
      stays _ _ c.in_ok-at.ensures.keeps c.in_ok-second.second c.args.second.now c.args.next c.in_ok-second.ensures.code,
      stays _ _ (keeps_on _ _ _ c.in_ok-first.ensures.keeps last) c.args.next rest stop is,
    )

pub repeat-returns-clause-code : goal.repeat-returns-clause-code
repeat-returns-clause-code t c = λ rest stop is.
    let last = keeps_on _ _ _ c.in_ok-begin.ensures.keeps c.in_ok-at.ensures.keeps in (
      c.in_ok-turn.turn,
      c.in_ok-begin.begin,
      c.args.after,
      rw (c.in_ok-from.ensures, c.in_ok-to.ensures) at c.in_ok-at.ensures.stands,
      last _ _ c.in_ok-turn.ensures.stands,
      stays _ _ c.in_ok-at.ensures.keeps c.in_ok-begin.begin c.args.block.now c.in_ok-turn.turn c.in_ok-begin.ensures.code,
      stays _ _ (keeps_on _ _ _ c.in_ok-turn.ensures.keeps last) c.args.after rest stop is,
    )

pub compile_block-compile_statement-requires : goal.compile_block-compile_statement-requires
compile_block-compile_statement-requires t c =
    let statements = c.block.inside.statements.items in
    let within : c.loop-left.left - 1 < length statements = omega (arith, c.loop-left.invariant.0, c.loop-left-test.true) in
    (omega (arith, no_larger statements (c.loop-left.left - 1) c.index.result.now within c.index.ensures, ap block_size c.block.view_is, c.decreases), tt)
