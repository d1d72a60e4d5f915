-- Tickets: each names an instance that was ready when it was handed out, under a number of its own.
use Rattle.std.specs.Prelude.{◌≡◌, ◌↔◌, ◌≤◌, ◌+◌, ◌^◌, ℕ, Bool, true, suc, ⊤, List, [], ◌∷◌, ◌++◌, length, Option, Some, None}
use Rattle.std.specs.List.{AllByRecursion}
use Rattle.instances.specs.declared.state.State.TheVariants.{Ready}
use Rattle.instances.specs.declared.ticket.Ticket.{Ticket}
use Rattle.instances.specs.Known.{Known, state_at}

-- how many numbers were drawn, by the next one: none is drawn after the greatest of 64 bits
abbrev pub drawn : Option ℕ → ℕ
drawn None = 2 ^ 64
drawn (Some next) = next

-- the tickets have the numbers from this one on, one after another
abbrev pub AreNumbered : ℕ → List Ticket → Type 0
AreNumbered first [] = ⊤
AreNumbered first (ticket ∷ tickets) = (ticket.number ≡ first) × AreNumbered (suc first) tickets

-- the instance of the ticket is ready
abbrev pub IsReady : Known → Ticket → Type 0
IsReady known ticket = state_at known ticket.inst ≡ Some Ready

-- Up to 64 tickets of ready instances are added, each under a number that was not drawn before; and then so many numbers more are drawn.
pub record HandsOut (known : Known) (before after : ℕ) (old new : List Ticket) : Type 0 where
  pub more : List Ticket
  pub added : new ≡ old ++ more
  pub few : length more ≤ 64
  pub numbered : AreNumbered before more
  pub drawn : after ≡ before + length more
  pub ready : AllByRecursion (IsReady known) more

-- the same, and it is said whether the last number was drawn
abbrev pub HandsOutAndTells : Known → ℕ → ℕ → List Ticket → List Ticket → Bool → Type 0
HandsOutAndTells known before after old new over = HandsOut known before after old new × ((over ≡ true) ↔ (after ≡ 2 ^ 64))

-- one such ticket is added
pub record AddsTicket (known : Known) (before after : ℕ) (old new : List Ticket) : Type 0 where
  pub ticket : Ticket
  pub added : new ≡ old ++ ticket ∷ []
  pub number : ticket.number ≡ before
  pub drawn : after ≡ before + 1
  pub ready : IsReady known ticket
