use Rattle.std.proofs.Common.{◌≡◌, drop}
use Rattle.passes.specs.Roll.{has_number}
use Rattle.passes.proofs.roll.is_here.Given as goal

-- the passes that are left decide
abbrev pub invariant-loop-pass : goal.invariant-loop-pass
invariant-loop-pass g l = has_number l.number l.passes ≡ has_number l.number (drop l.pass-index l.passes)
