use Rattle.std.proofs.Common.{◌≡◌, ◌<◌, ◌++◌, ℕ, true}
use Rattle.passes.specs.Roll.{has_number}
use Rattle.passes.proofs.roll.are_here.Given as goal

-- the passes below this number are here
abbrev pub invariant-loop-number : goal.invariant-loop-number
invariant-loop-number g l = (number : ℕ) → number < l.number → has_number number (l.envs ++ l.workers) ≡ true
