use Rattle.std.proofs.Common.{◌≡◌, List, sym, ap, ◌∙◌, arith}
use Rattle.steptree.specs.Tree.{block_size}
use Rattle.steptree.specs.SeenBlocks.{NamedStatement, block_seen}
use Rattle.steptree.specs.Statements.{texts}
use Rattle.steptree.proofs.FirstFaults.{passed_on}
use Rattle.steptree.specs.BlocksFall.{no_larger}
use Rattle.steptree.proofs.Statements.{one_more, first_here}
use Rattle.steptree.proofs.checker.statements.+blocks.Goals as goal

pub resolve_block-resolve_statement-requires : goal.resolve_block-resolve_statement-requires
resolve_block-resolve_statement-requires t c =
    let items : c.deref-statement-items.result.now ≡ c.block.inside.statements.items = c.deref-statement-items.ensures.value in
    let smaller = no_larger c.deref-statement-items.result.now c.loop-statement.statement-index c.statement-item.result c.loop-statement-test.true c.statement-item.is in
    let whole = ap (λ (l : List NamedStatement). block_size (block_seen l)) items ∙ ap block_size c.block.view_is in
    (omega (arith, smaller, whole, c.decreases), (c.requires.named, (c.requires.items, c.requires.tags)))

pub resolve_block-returns-in_err-resolved-clause-faults : goal.resolve_block-returns-in_err-resolved-clause-faults
resolve_block-returns-in_err-resolved-clause-faults t c =
    let items : c.deref-statement-items.result.now ≡ c.block.inside.statements.items = c.deref-statement-items.ensures.value in
    passed_on _ c.from_residual-in_err-resolved.result c.in_err-resolved.field-0.0 c.from_residual-in_err-resolved.ensures.1
    (rw (sym c.block.view_is, sym items) (first_here (texts c.args.names.now) c.args.sheet.now c.deref-statement-items.result.now c.loop-statement.statement-index c.loop-statement.statements.items c.statement-item.result
    c.loop-statement-test.true c.statement-item.is c.loop-statement.invariant c.in_err-resolved.field-0.0 c.in_err-resolved.ensures.faults))

pub resolve_block-loop-statement-preserved : goal.resolve_block-loop-statement-preserved
resolve_block-loop-statement-preserved t c =
    rw (c.push_reserved.ensures.items, c.reserve.ensures.items) (one_more (texts c.args.names.now) c.args.sheet.now c.deref-statement-items.result.now c.loop-statement.statement-index c.loop-statement.statements.items c.statement-item.result
    c.loop-statement-test.true c.statement-item.is c.loop-statement.invariant c.in_ok-resolved.resolved c.in_ok-resolved.ensures.statement c.in_ok-resolved.ensures.faults)
