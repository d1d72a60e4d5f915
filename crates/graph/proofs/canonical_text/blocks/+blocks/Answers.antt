use Rattle.std.proofs.Common.{List, ap, ◌∙◌, arith}
use Rattle.steptree.specs.Tree.{block_size}
use Rattle.steptree.specs.SeenBlocks.{NumberedStatement, block_seen}
use Rattle.steptree.specs.BlocksFall.{no_larger}
use Rattle.graph.proofs.Written.{longer_behind}
use Rattle.graph.proofs.canonical_text.blocks.+blocks.Goals as goal

-- the line before was written at this level
pub put_choice-deeper-next-requires : goal.put_choice-deeper-next-requires
put_choice-deeper-next-requires t c = longer_behind _ _ (c.deref.ensures.value ∙ c.in_ok-put_condition.ensures)

pub put_loop-deeper-next-requires : goal.put_loop-deeper-next-requires
put_loop-deeper-next-requires t c = longer_behind _ _ (c.deref.ensures.value ∙ c.in_ok-put_range.ensures)

pub put_block-put_statement-requires : goal.put_block-put_statement-requires
put_block-put_statement-requires t c =
    let smaller = no_larger c.deref-statement-items.result.now c.loop-statement.statement-index c.statement-item.result c.loop-statement-test.true c.statement-item.is in
    let whole = ap (λ (l : List NumberedStatement). block_size (block_seen l)) c.deref-statement-items.ensures.value ∙ ap block_size c.block.view_is in
    (omega (arith, smaller, whole, c.decreases), tt)
