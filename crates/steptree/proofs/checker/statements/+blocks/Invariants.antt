use Rattle.std.proofs.Common.{◌+◌, ◌*◌, max}
use Rattle.steptree.specs.Tree.{End, block_size}
use Rattle.steptree.specs.SeenBlocks.{stated}
use Rattle.steptree.specs.Statements.{texts}
use Rattle.steptree.proofs.Statements.{SoFar}
use Rattle.steptree.proofs.checker.statements.+blocks.Given as goal

-- the statements so far are resolved, and none of them has a fault
abbrev pub invariant-resolve_block-loop-statement : goal.invariant-resolve_block-loop-statement
invariant-resolve_block-loop-statement l = SoFar (texts l.names) l.sheet l.statement-items l.statement-index l.statements.items

abbrev pub decreases-resolve_statement : goal.decreases-resolve_statement
decreases-resolve_statement l = 3 * block_size (stated l.statement.now End) + 1

abbrev pub decreases-resolve_block : goal.decreases-resolve_block
decreases-resolve_block l = 3 * block_size l.block.now + 2

abbrev pub decreases-choose : goal.decreases-choose
decreases-choose l = 3 * max (block_size l.first.now) (block_size l.second.now) + 3

abbrev pub decreases-repeat : goal.decreases-repeat
decreases-repeat l = 3 * block_size l.block.now + 3
