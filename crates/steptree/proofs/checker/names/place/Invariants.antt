use Rattle.steptree.proofs.Places.{Left}
use Rattle.steptree.proofs.checker.names.place.Given as goal

-- the text is at none of the places so far
abbrev pub invariant-loop-place : goal.invariant-loop-place
invariant-loop-place g l = Left g.N.Named.name l.text l.names l.place
