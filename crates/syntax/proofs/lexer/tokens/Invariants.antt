use Rattle.std.proofs.Common.{◌≤◌, ◌-◌, length}
use Rattle.syntax.specs.Tokens.{spots_of}
use Rattle.syntax.proofs.Chain.{SoFar}
use Rattle.syntax.proofs.lexer.tokens.Given as goal

abbrev pub invariant-loop-place : goal.invariant-loop-place
invariant-loop-place l = record { within : l.place ≤ length l.text; so_far : SoFar l.text l.place (spots_of l.tokens.items) }

abbrev pub decreases-loop-place : goal.decreases-loop-place
decreases-loop-place l = length l.text - l.place
