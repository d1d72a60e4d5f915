-- Instances that are claimed by tickets.
use Rattle.std.specs.Prelude.{◌≡◌, ◌≤◌, ◌++◌, ℕ, Bool, List, length, Result}
use Rattle.std.specs.List.{AllByRecursion}
use Rattle.graph.specs.Fits.{MayEnd}
use Rattle.instances.specs.declared.ticket.Ticket.{Ticket}
use Rattle.instances.specs.Tickets.{AreNumbered}
use Rattle.commit.specs.declared.error.CoreError.{CoreError}
use Rattle.commit.specs.Core.{Core}
use Rattle.commit.specs.Steps.{TakesTickets}
use Rattle.passes.specs.Known.{Known}
use Rattle.passes.specs.Opening.{Opening}
use Rattle.hub.specs.Opening.{facts_behind}

-- Up to 64 tickets were added behind the others, with the numbers from some number on; the instance of each is prescribed and not done in the state that the pass knows.
pub record AddsTickets (opening : Opening) (known : Known) (old new : List Ticket) : Type 0 where
  pub more : List Ticket
  pub first : ℕ
  pub added : new ≡ old ++ more
  pub few : length more ≤ 64
  pub numbered : AreNumbered first more
  pub may_end : AllByRecursion (λ ticket. MayEnd opening.graph (facts_behind opening known.seen) ticket.inst) more

-- under the lock: as the core does, with some numbers
abbrev pub TakesSome : {D : Type 0} → Core D → Core D → List Ticket → List Ticket → Result Bool CoreError → Type 0
TakesSome old new had has result = (before : ℕ) × (after : ℕ) × TakesTickets old new before after had has result
