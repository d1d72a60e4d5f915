use Rattle.std.proofs.Common.{◌≡◌, ◌+◌, ◌*◌, ◌++◌, max, drop}
use Rattle.steptree.specs.Tree.{End, block_size}
use Rattle.steptree.specs.SeenBlocks.{stated, joined}
use Rattle.graph.specs.Canonical.{block_text}
use Rattle.graph.specs.Pieces.{in_words}
use Rattle.graph.proofs.canonical_text.blocks.+blocks.Given as goal

-- what is written, with the statements that are left, is the whole
abbrev pub invariant-put_block-loop-statement : goal.invariant-put_block-loop-statement
invariant-put_block-loop-statement l =
    l.text.items ++ in_words l.words block_text l.level (joined (drop l.statement-index l.statement-items) End) ≡ l.fn.text.items ++ in_words l.words block_text l.level (joined l.statement-items End)

abbrev pub decreases-put_statement : goal.decreases-put_statement
decreases-put_statement l = 3 * block_size (stated l.statement.now End) + 1

abbrev pub decreases-put_block : goal.decreases-put_block
decreases-put_block l = 3 * block_size l.block.now + 2

abbrev pub decreases-put_choice : goal.decreases-put_choice
decreases-put_choice l = 3 * max (block_size l.first.now) (block_size l.second.now) + 3

abbrev pub decreases-put_loop : goal.decreases-put_loop
decreases-put_loop l = 3 * block_size l.block.now + 3
