use Rattle.std.proofs.Common.{◌≡◌, vec_len}
use Rattle.pool.proofs.team.deques_for.Given as goal

-- each turn makes one
abbrev pub invariant-loop : goal.invariant-loop
invariant-loop l = vec_len l.deques ≡ l.counter
