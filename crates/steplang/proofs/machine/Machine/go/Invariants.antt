use Rattle.std.proofs.Common.{◌≡◌, List}
use Rattle.steptree.specs.Run.{Read}
use Rattle.steplang.specs.Machine.{outcome_from, left_of}
use Rattle.steplang.proofs.machine.Machine.go.Given as goal

-- the outcome that is still to come stays the same, and the code does too
abbrev pub invariant-steps : goal.invariant-steps
invariant-steps l = record {
  same : (reads : List Read) → outcome_from l.fn.self l.fn.self.progress reads ≡ outcome_from l.self l.progress reads;
  code : l.code ≡ l.self.code.now;
}

abbrev pub decreases-steps : goal.decreases-steps
decreases-steps l = left_of l.self l.progress
