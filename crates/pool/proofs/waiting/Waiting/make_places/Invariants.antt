use Rattle.std.proofs.Common.{List, ◌+◌, ◌≤◌, vec_capacity, vec_len}
use Rattle.terms.specs.Commits.{Commit}
use Rattle.passes.specs.Opening.{Opening}
use Rattle.pool.specs.Worked.{AreWaiting}
use Rattle.pool.specs.declared.waiting.TheConstants.{PLACES}
use Rattle.pool.proofs.waiting.Waiting.make_places.Given as goal

-- there is room for the places that are still to be made
abbrev pub invariant-loop : goal.invariant-loop
invariant-loop l = record {
  room : vec_len l.self.places + PLACES ≤ vec_capacity l.self.places + l.counter;
  waiting : (opening : Opening) (seen : List Commit) → AreWaiting opening seen l.fn.self → AreWaiting opening seen l.self;
}
