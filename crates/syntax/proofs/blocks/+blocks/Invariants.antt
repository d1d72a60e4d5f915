use Rattle.std.proofs.Common.{◌+◌, ◌-◌, ◌*◌, length}
use Rattle.syntax.specs.declared.limits.TheConstants.{MOST_BRACES}
use Rattle.syntax.specs.Parsed.{left}
use Rattle.syntax.specs.Statements.{part_of, StatementsSoFar}
use Rattle.syntax.proofs.blocks.+blocks.Given as goal

-- by the braces that may still be opened
abbrev pub decreases-nested : goal.decreases-nested
decreases-nested l = 4 * (MOST_BRACES - l.around)

abbrev pub decreases-second : goal.decreases-second
decreases-second l = 4 * (MOST_BRACES - l.around) + 1

abbrev pub decreases-choice : goal.decreases-choice
decreases-choice l = 4 * (MOST_BRACES - l.around) + 2

abbrev pub decreases-repetition : goal.decreases-repetition
decreases-repetition l = 4 * (MOST_BRACES - l.around) + 2

abbrev pub decreases-statements : goal.decreases-statements
decreases-statements l = 4 * (MOST_BRACES - l.around) + 3

-- these statements are read
abbrev pub invariant-statements-loop-cursor : goal.invariant-statements-loop-cursor
invariant-statements-loop-cursor l = StatementsSoFar (part_of l.part) l.around (left l.fn.cursor) (left l.cursor) l.statements.items

abbrev pub decreases-statements-loop-cursor : goal.decreases-statements-loop-cursor
decreases-statements-loop-cursor l = length (left l.cursor)
