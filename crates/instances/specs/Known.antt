-- The tags that are there, and the instances that they prescribe.
use Rattle.std.specs.Prelude.{◌≡◌, ◌≢◌, ℕ, ℤ, ◌+◌, ◌-◌, ◌==◌, ◌<◌, ◌≤◌, min, Bool, false, cond, ◌&&◌, List, [], ◌∷◌, map, length, slice_get, Option, Some, None, is_some, ⊤}
use Rattle.std.specs.List.{sum_by}
use Rattle.std.specs.Ordering.{eq_by_cmp}
use Rattle.std.specs.FinMap.{empty, get, insert}
use Rattle.terms.specs.Key.{key_cmp}
use Rattle.terms.specs.declared.name.Inst.{Inst}
use Rattle.terms.specs.declared.name.Tag.{Tag}
use Rattle.terms.specs.declared.name.TagCollection.{TagCollection}
use Rattle.maps.specs.Numbered.{Numbered, Place, AddsAt, none_held, room_at}
use Rattle.instances.specs.declared.state.State.{State}
use Rattle.instances.specs.declared.state.State.TheVariants.{Ready}
use Rattle.instances.specs.declared.step.Step.{Step}
use Rattle.instances.specs.OfStep.{how_many, is_ready, is_running, one_if}

-- each tag that is there, and whether the environment put it; and for each step, by number, the tag collection that
-- prescribes it, and its instances
pub record Known : Type 0 where
  pub tags : Numbered Bool
  pub steps : List Step

abbrev pub tag_place : Tag → Place
tag_place name = (name.collection.0, name.key)

abbrev pub tag_at : Place → Tag
tag_at at = record { collection = record { 0 = at.0 }; key = at.1 }

-- an instance as the number of its step and its key
abbrev pub inst_place : Inst → Place
inst_place instance = (instance.collection.0, instance.key)

-- the mark of a tag, if the tag is there: whether the environment put it
abbrev pub mark_of : Known → Tag → Option Bool
mark_of known name = get known.tags.items (tag_place name)

abbrev pub state_in : Option Step → List ℤ → Option State
state_in None key = None
state_in (Some step) key = get step.instances.states key

-- the state of an instance, if it is prescribed
abbrev pub state_at : Known → Inst → Option State
state_at known instance = state_in (slice_get known.steps instance.collection.0) instance.key

abbrev pub prescriber_in : Option Step → Option ℕ
prescriber_in None = None
prescriber_in (Some step) = Some step.prescriber.0

-- the number of the tag collection that prescribes a step, if there is such a step
abbrev pub prescriber_at : Known → ℕ → Option ℕ
prescriber_at known number = prescriber_in (slice_get known.steps number)

abbrev pub prescribed_in : Option ℕ → Tag → List ℤ → Bool
prescribed_in None name key = false
prescribed_in (Some number) name key = (number == name.collection.0) && eq_by_cmp key_cmp key name.key

-- whether the tag prescribes the instance: the tag's collection prescribes the step, and the keys are equal
abbrev pub is_prescribed_by : Known → Tag → Inst → Bool
is_prescribed_by known name instance = prescribed_in (prescriber_at known instance.collection.0) name instance.key

-- the number of instances in a state that passes the test
abbrev pub total : (State → Bool) → Known → ℕ
total test known = sum_by (λ step. how_many test step.instances.states) known.steps

-- no instance is ready, and none runs
abbrev pub NoneIsActive : Known → Type 0
NoneIsActive known = (instance : Inst) (state : State) → state_at known instance ≡ Some state → (is_ready state ≡ false) × (is_running state ≡ false)

-- the least of a number and the rooms of the steps that a tag collection prescribes
abbrev pub least : ℕ → ℕ → List Step → ℕ
least collection room [] = room
least collection room (step ∷ steps) = least collection (cond (step.prescriber.0 == collection) (min room step.instances.room) room) steps

-- the number of further tags of a collection that there is room for, with all instances that they prescribe
abbrev pub room_for : Known → TagCollection → ℕ
room_for known collection = least collection.0 (room_at known.tags collection.0) known.steps

-- an instance is there exactly when its tag is there
abbrev pub ArePrescribed : Numbered Bool → List Step → Type 0
ArePrescribed tags steps = (number : ℕ) (step : Step) (key : List ℤ) → slice_get steps number ≡ Some step → is_some (get step.instances.states key) ≡ is_some (get tags.items (step.prescriber.0, key))

-- one instance moves to a state, and is counted in that state instead of the one that it had; nothing else changes
pub record MovesOne (old new : Known) (instance : Inst) (to : State) : Type 0 where
  pub tags : new.tags ≡ old.tags
  pub here : state_at new instance ≡ Some to
  pub others : (other : Inst) → other ≢ instance → state_at new other ≡ state_at old other
  pub counts : (test : State → Bool) → total test new + one_if test (state_at old instance) ≡ total test old + one_if test (Some to)
  pub prescribers : (number : ℕ) → prescriber_at new number ≡ prescriber_at old number
  pub room : (collection : TagCollection) → room_for new collection ≡ room_for old collection

-- a tag is added, and with it the instances that it prescribes, each in its first state; nothing else changes, except the room of
-- its collection, which is one less
pub record Prescribes (old new : Known) (name : Tag) (mark : Bool) (first : Inst → State) : Type 0 where
  pub tags : AddsAt old.tags new.tags (tag_place name) mark
  pub states : (instance : Inst) → state_at new instance ≡ cond (is_prescribed_by old name instance) (Some (first instance)) (state_at old instance)
  pub prescribers : (number : ℕ) → prescriber_at new number ≡ prescriber_at old number
  pub room : room_for new name.collection + 1 ≡ room_for old name.collection
  pub other_room : (collection : TagCollection) → collection.0 ≢ name.collection.0 → room_for new collection ≡ room_for old collection

-- a step without instances
abbrev pub fresh_step : TagCollection → Step
fresh_step prescriber = record { prescriber = prescriber; instances = record { states = empty; room = 0 } }

-- `tags` tag collections without tags, and a step without instances for each of the prescribing collections
abbrev pub fresh : ℕ → List TagCollection → Known
fresh tags prescribers = record { tags = none_held tags; steps = map fresh_step prescribers }

-- there may be more room for a collection, and nothing else has changed
pub record OnlyMakesRoom (old new : Known) (collection : TagCollection) : Type 0 where
  pub tags : new.tags.items ≡ old.tags.items
  pub states : (instance : Inst) → state_at new instance ≡ state_at old instance
  pub prescribers : (number : ℕ) → prescriber_at new number ≡ prescriber_at old number
  pub tag_collections : length new.tags.room ≡ length old.tags.room
  pub not_less : room_for old collection ≤ room_for new collection
  pub other_room : (other : TagCollection) → other.0 ≢ collection.0 → room_for new other ≡ room_for old other

-- ---- one step

-- the step may have more room, if the collection prescribes it
pub record GrownStep (collection : ℕ) (old new : Step) : Type 0 where
  pub prescriber : new.prescriber ≡ old.prescriber
  pub states : new.instances.states ≡ old.instances.states
  pub not_less : old.instances.room ≤ new.instances.room
  pub other : old.prescriber.0 ≢ collection → new ≡ old

-- this holds for each step
abbrev pub AllGrown : ℕ → List Step → List Step → Type 0
AllGrown collection [] [] = ⊤
AllGrown collection (old ∷ olds) (new ∷ news) = GrownStep collection old new × AllGrown collection olds news
AllGrown collection olds news = ⊥

-- each step that the collection prescribes has room for `count` more instances
abbrev pub AllHaveRoom : ℕ → ℕ → List Step → Type 0
AllHaveRoom collection count [] = ⊤
AllHaveRoom collection count (step ∷ steps) = (step.prescriber.0 ≡ collection → count ≤ step.instances.room) × AllHaveRoom collection count steps

-- a step that the tag prescribes has room for the instance, which is not there
abbrev pub CanTake : Tag → Step → Type 0
CanTake name step = step.prescriber.0 ≡ name.collection.0 → (get step.instances.states name.key ≡ None) × (0 < step.instances.room)

-- the instance of the step with this number, and with this key
abbrev pub instance_at : ℕ → List ℤ → Inst
instance_at number key = record { collection = record { 0 = number }; key = key }

-- the step, to which the instance that the tag prescribes was added as ready
abbrev pub with_instance : Tag → Step → Step
with_instance name step =
    cond (step.prescriber.0 == name.collection.0)
    (record { prescriber = step.prescriber; instances = record { states = insert step.instances.states name.key Ready; room = step.instances.room - 1 } })
    step

-- each step can take the instance that the tag prescribes
abbrev pub AllCanTake : Tag → List Step → Type 0
AllCanTake name steps = (number : ℕ) (step : Step) → slice_get steps number ≡ Some step → CanTake name step
