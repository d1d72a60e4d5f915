use Rattle.std.proofs.Common.{◌≤◌, ◌+◌, ◌*◌, max, length, drop}
use Rattle.steptree.specs.Tree.{End, block_size}
use Rattle.steptree.specs.SeenBlocks.{stated, joined}
use Rattle.steptree.specs.Compiled.{IsCode, Keeps}
use Rattle.steptree.proofs.compiler.+compile.Given as goal

-- the statements from `left` on have their code at `at`
abbrev pub invariant-compile_block-loop-left : goal.invariant-compile_block-loop-left
invariant-compile_block-loop-left l = (l.left ≤ length l.block-inside.statements.items)
    × IsCode l.code.items l.at (joined (drop l.left l.block-inside.statements.items) End) l.stop × Keeps l.fn.code.items l.code.items

abbrev pub decreases-compile_block-loop-left : goal.decreases-compile_block-loop-left
decreases-compile_block-loop-left l = l.left

abbrev pub decreases-compile_statement : goal.decreases-compile_statement
decreases-compile_statement l = 3 * block_size (stated l.statement.now End) + 1

abbrev pub decreases-compile_block : goal.decreases-compile_block
decreases-compile_block l = 3 * block_size l.block.now + 2

abbrev pub decreases-choose : goal.decreases-choose
decreases-choose l = 3 * max (block_size l.first.now) (block_size l.second.now) + 3

abbrev pub decreases-repeat : goal.decreases-repeat
decreases-repeat l = 3 * block_size l.block.now + 3
