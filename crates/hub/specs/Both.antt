-- Two threads that put one item each.
use Rattle.std.specs.Prelude.{◌≡◌, ◌⊎◌, ℤ, List, ◌++◌, ◌∷◌, [], Result, Ok, Err, OnOk, OnErr, IfErr}
use mathlib.Core.List.{IsPrefix}
use Rattle.terms.specs.declared.name.Addr.{Addr}
use Rattle.terms.specs.declared.event.Event.TheVariants.{EnvItem}
use Rattle.terms.specs.Commits.{Commit}
use Rattle.machine.specs.Machine.{RefusesItem}
use Rattle.commit.specs.declared.error.CoreError.{CoreError}
use Rattle.commit.specs.Core.{Core}
use Rattle.commit.specs.Kept.{IsHaltedByTurn}
use Rattle.passes.specs.Known.{Known, Made, commits}
use Rattle.passes.specs.Opening.{Opening}
use Rattle.hub.specs.Opening.{end_behind, facts_behind, AreLegalBehind, IsBehind, WasTurned}
use Rattle.hub.specs.Replies.{RefusesAt, RefusesEvent, Sees, Adds, AddsNothing}

-- why the put of this item is refused in the state that a pass knows
abbrev pub RefusesPut : Opening → Known → Addr × ℤ → CoreError → Type 0
RefusesPut opening known put error = RefusesEvent opening known (λ g X. RefusesItem g X put.0) (EnvItem put.0 put.1) error

-- what a thread that put an item knows, by its pass before the put and after it
pub record Puts (opening : Opening) (old new : Known) (put : Addr × ℤ) (result : Result (Unit {0}) CoreError) : Type 0 where
  pub seen : Sees opening old new
  pub ok : OnOk result (Adds (EnvItem put.0 put.1 ∷ []) old new)
  pub err : OnErr result (AddsNothing old new)
  pub refused : IfErr result (RefusesPut opening new put)

-- what a result says was put: the item at `Ok`, as a commit by itself, and nothing at an error
abbrev pub put_by : Addr × ℤ → Result (Unit {0}) CoreError → List Commit
put_by put (Ok done) = (EnvItem put.0 put.1 ∷ []) ∷ []
put_by put (Err error) = []

-- why an item is not put, in the state after a prefix of the history. `Halted` needs no cause here.
abbrev pub IsRefused : Opening → List Made → Addr × ℤ → Result (Unit {0}) CoreError → Type 0
IsRefused opening history put result =
    IfErr result (λ error. (before : List Commit) × IsPrefix before (commits history) × RefusesAt opening.graph (facts_behind opening before) (end_behind opening before) (RefusesItem opening.graph (facts_behind opening before) put.0) (EnvItem put.0 put.1) error)

-- There is one history. It is legal and has just what the two results say was put, in one order or the other. The core has the state after it, and an
-- item that is not put is refused in the state after a prefix of it. If a turnover halted the core, that was before.
pub record BothPut {D : Type 0} (opening : Opening) (new : Core D) (one two : Addr × ℤ) (first second : Result (Unit {0}) CoreError) : Type 0 where
  pub history : List Made
  pub legal : AreLegalBehind opening (commits history)
  pub behind : IsBehind opening (commits history) new
  pub just : (commits history ≡ put_by one first ++ put_by two second) ⊎ (commits history ≡ put_by two second ++ put_by one first)
  pub refused_one : IsRefused opening history one first
  pub refused_two : IsRefused opening history two second
  pub turned : IsHaltedByTurn new → WasTurned opening
