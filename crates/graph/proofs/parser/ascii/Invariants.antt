use Rattle.std.proofs.Common.{◌<◌, ℕ, get_or}
use Rattle.graph.proofs.parser.ascii.Given as goal

-- the bytes so far are below 128
abbrev pub invariant-loop-position : goal.invariant-loop-position
invariant-loop-position l = (index : ℕ) → index < l.position → get_or l.text index 0 < 128
