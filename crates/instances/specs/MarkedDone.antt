-- Marks at the instances that are done.
use Rattle.std.specs.Prelude.{◌≡◌, ℕ, ℤ, ◌<◌, Bool, true, false, not, List, length, get_or, Option, Some, None, IfSome}
use Rattle.std.specs.declared.cmp.Ordering.{Ordering}
use Rattle.std.specs.Option.{option_map}
use Rattle.std.specs.FinMap.{FinMap, empty, entries, get}
use Rattle.terms.specs.Key.{key_cmp}
use Rattle.terms.specs.declared.name.Inst.{Inst}
use Rattle.maps.specs.Marked.{AreUnmarked, Marked, MarkedPlaces}
use Rattle.instances.specs.declared.standing.Standing.{Standing}
use Rattle.instances.specs.declared.standing.Standing.TheVariants as stands
use Rattle.instances.specs.declared.state.State.{State}
use Rattle.instances.specs.declared.state.State.TheVariants.{Ready, Running, Waiting, Done}
use Rattle.instances.specs.declared.step.Step.{Step}
use Rattle.instances.specs.Known.{Known, fresh_step, inst_place, state_at}

-- it is done
abbrev pub is_over : Standing → Bool
is_over stands.Ready = false
is_over stands.Running = false
is_over stands.Waiting = false
is_over stands.Done = true

-- the mark of an instance that stands so, if it is done
abbrev pub mark_if_over : Standing → Bool → Option Bool
mark_if_over stands.Ready marked = None
mark_if_over stands.Running marked = None
mark_if_over stands.Waiting marked = None
mark_if_over stands.Done marked = Some marked

abbrev pub done_in : Option (Standing × Bool) → Option Bool
done_in None = None
done_in (Some entry) = mark_if_over entry.0 entry.1

-- whether an instance is marked, if it is done
abbrev pub done_mark : MarkedPlaces Standing → Inst → Option Bool
done_mark marks instance = done_in (get marks (inst_place instance))

-- an instance that is done has no mark at first
abbrev pub first_mark : Option State → Option Bool
first_mark None = None
first_mark (Some Ready) = None
first_mark (Some Running) = None
first_mark (Some (Waiting address)) = None
first_mark (Some Done) = Some false

-- the instances that are done are these, and none is marked
abbrev pub NoneIsMarked : Known → MarkedPlaces Standing → Type 0
NoneIsMarked known marks = (instance : Inst) → done_mark marks instance ≡ first_mark (state_at known instance)

-- each instance that is done is marked
abbrev pub AreDoneMarked : MarkedPlaces Standing → Type 0
AreDoneMarked marks = (instance : Inst) → IfSome (done_mark marks instance) (λ marked. marked ≡ true)

-- what is not marked is done: instances that are not done are marked from the beginning, so that a search for one that is not marked finds one that is done
abbrev pub LeftAreDone : {K : Type 0} {R : K → K → Ordering} → FinMap R (Standing × Bool) → Type 0
LeftAreDone {K} marks = (key : K) (standing : Standing) → get marks key ≡ Some (standing, false) → standing ≡ stands.Done

-- ---- the instances of one step

-- each is marked unless it is done
abbrev pub AreSettled : FinMap key_cmp Standing → Marked Standing → Type 0
AreSettled standings marks = (key : List ℤ) → get marks key ≡ option_map (λ standing. (standing, not (is_over standing))) (get standings key)

-- if these are all instances, and none of them was marked, just those that are not done are marked now
abbrev pub MarksOthers : List (List ℤ × Standing) → Marked Standing → Marked Standing → Type 0
MarksOthers all old new = (standings : FinMap key_cmp Standing) → all ≡ entries standings → AreUnmarked standings old → AreSettled standings new

-- these are the marks of those that are done, and none of them is marked
pub record MarksDone (states : FinMap key_cmp State) (marks : Marked Standing) : Type 0 where
  pub each : (key : List ℤ) → done_in (get marks key) ≡ first_mark (get states key)
  pub left : LeftAreDone marks

-- of each step
pub record AreDoneMarks (steps : List Step) (maps : List (Marked Standing)) : Type 0 where
  pub many : length maps ≡ length steps
  pub each : (n : ℕ) → n < length maps → MarksDone (get_or steps n (fresh_step (record { 0 = 0 }))).instances.states (get_or maps n empty)
