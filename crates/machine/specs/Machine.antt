-- The state of a store in memory: its graph and what it holds; what each call does to it, and why a call is refused.
use Rattle.std.specs.Prelude.{◌≡◌, ◌≢◌, ◌⊎◌, ⊤, ℕ, ℤ, ◌+◌, ◌≤◌, Bool, true, false, List, [], ◌∷◌, length, get_or, slice_get, MatchBool, Option, Some, None}
use Rattle.terms.specs.declared.name.Addr.{Addr}
use Rattle.terms.specs.declared.name.Tag.{Tag}
use Rattle.terms.specs.declared.name.Inst.{Inst}
use Rattle.terms.specs.declared.name.ItemCollection.{ItemCollection}
use Rattle.terms.specs.declared.name.TagCollection.{TagCollection}
use Rattle.terms.specs.declared.fault.FaultKind.TheVariants.{DoublePut}
use Rattle.terms.specs.declared.put.Put.{Put}
use Rattle.terms.specs.declared.put.Put.TheVariants as put
use Rattle.terms.specs.declared.event.Event.{Event}
use Rattle.terms.specs.declared.event.Event.TheVariants as event
use Rattle.terms.specs.Facts.{Fact, tag, bad, event_facts, environment_facts}
use Rattle.terms.specs.Sets.{Facts, with_facts}
use Rattle.steptree.specs.Nameable.{Collection}
use Rattle.graph.specs.Graph.{Graph, EnvironmentMayPutItem, EnvironmentMayPutTag}
use Rattle.graph.specs.Fits.{HasNoFault, IsAbsent, AddressIsOf, TagIsOf, addresses}
use Rattle.items.specs.Held as items_held
use Rattle.instances.specs.declared.state.State.{State}
use Rattle.instances.specs.declared.state.State.TheVariants.{Ready, Running, Waiting, Done}
use Rattle.instances.specs.OfStep.{is_ready, is_running, is_waiting, one_if}
use Rattle.instances.specs.Known.{state_at, total}
use Rattle.instances.specs.Known as instances
use Rattle.machine.specs.declared.memory.Memory.{Memory}
use Rattle.machine.specs.declared.refusal.Refusal.{Refusal}
use Rattle.machine.specs.declared.refusal.Refusal.TheVariants.{NoSuchCollection, NotFromEnvironment, WrongArity, AlreadyPut, Stopped, Repeat}
use Rattle.machine.specs.declared.end.End.{End}
use Rattle.machine.specs.declared.end.End.TheVariants as end
use Rattle.machine.specs.Meaning.{items}
use Rattle.machine.specs.Putting.{items_to, tags_to, HasRoomFor}
use Rattle.machine.specs.Memory.{facts_of, environment_of}
use Rattle.machine.specs.Waking.{woken_among}

-- the answer says whether this holds
abbrev pub TellsWhether : Bool → Type 0 → Type 0
TellsWhether answer holds = MatchBool answer holds (holds → ⊥)

pub record Machine : Type 0 where
  pub graph : Graph
  pub memory : Memory

-- the facts that the store has, and those that the environment put
abbrev pub facts : Machine → Facts
facts m = facts_of m.memory

abbrev pub environment : Machine → Facts
environment m = environment_of m.memory

-- the state of an instance, if it is prescribed
abbrev pub state_of : Machine → Inst → Option State
state_of m instance = state_at m.memory.instances instance

-- the number of instances in such a state: of the ready ones, of those that run, and of those that wait
abbrev pub how_many : (State → Bool) → Machine → ℕ
how_many test m = total test m.memory.instances

abbrev pub ready_count : Machine → ℕ
ready_count m = how_many is_ready m

abbrev pub running_count : Machine → ℕ
running_count m = how_many is_running m

abbrev pub waiting_count : Machine → ℕ
waiting_count m = how_many is_waiting m

-- for how many more items a collection has room, and for how many more tags, with all that they prescribe
abbrev pub item_room : Machine → ItemCollection → ℕ
item_room m collection = items_held.room_for m.memory.items collection

abbrev pub tag_room : Machine → TagCollection → ℕ
tag_room m collection = instances.room_for m.memory.instances collection

-- ---- changes

-- the event ends this instance
abbrev pub Ends : Event → Inst → Type 0
Ends (event.EnvItem address value) instance = ⊥
Ends (event.EnvTag name) instance = ⊥
Ends (event.Done ended puts) instance = ended ≡ instance
Ends (event.Stopped ended kind) instance = ended ≡ instance

-- the event is a put by the environment
abbrev pub IsPut : Event → Type 0
IsPut (event.EnvItem address value) = ⊤
IsPut (event.EnvTag name) = ⊤
IsPut (event.Done ended puts) = ⊥
IsPut (event.Stopped ended kind) = ⊥

-- the puts of the event
abbrev pub puts_of : Event → List Put
puts_of (event.EnvItem address value) = put.Item address value ∷ []
puts_of (event.EnvTag name) = put.Tag name ∷ []
puts_of (event.Done ended puts) = puts
puts_of (event.Stopped ended kind) = []

-- some item is at the address
abbrev pub HasItem : Facts → Addr → Type 0
HasItem X address = (value : ℤ) × items X address value

-- How the state of an instance goes on when facts are added that make X. An instance that waits becomes ready exactly if its item is
-- there. One without a state has none, or is ready. The others stay.
abbrev pub GoesOn : Facts → Option State → Option State → Type 0
GoesOn X None to = (to ≡ None) ⊎ (to ≡ Some Ready)
GoesOn X (Some (Waiting address)) to = (IsAbsent X address × (to ≡ Some (Waiting address))) ⊎ (HasItem X address × (to ≡ Some Ready))
GoesOn X (Some Ready) to = to ≡ Some Ready
GoesOn X (Some Running) to = to ≡ Some Running
GoesOn X (Some Done) to = to ≡ Some Done

-- the instance that the event ends is done; if it is at fault, it is given back, and stays ready because nothing is claimed after a fault
abbrev pub EndsAs : Machine → Event → Type 0
EndsAs new (event.EnvItem address value) = ⊤
EndsAs new (event.EnvTag name) = ⊤
EndsAs new (event.Done ended puts) = state_of new ended ≡ Some Done
EndsAs new (event.Stopped ended kind) = state_of new ended ≡ Some Ready

-- The event is taken: its facts are added, and among them those that the environment put. Other instances go on. The room of each
-- collection shrinks by at most the number of the event's puts that go to it.
pub record Takes (old new : Machine) (event : Event) : Type 0 where
  pub graph : new.graph ≡ old.graph
  pub facts : (fact : Fact) → facts new fact ≡ with_facts (facts old) (event_facts event) fact
  pub environment : (fact : Fact) → environment new fact ≡ with_facts (environment old) (environment_facts event) fact
  pub states : (instance : Inst) → (Ends event instance → ⊥) → GoesOn (facts_of new.memory) (state_of old instance) (state_of new instance)
  pub ends : EndsAs new event
  pub item_room : (collection : ItemCollection) → item_room old collection ≤ item_room new collection + items_to collection (puts_of event)
  pub tag_room : (collection : TagCollection) → tag_room old collection ≤ tag_room new collection + tags_to collection (puts_of event)

-- one instance moves into a state: it is counted there, and no more in the state it had; no fact, no other instance and no room changes
pub record Moves (old new : Machine) (instance : Inst) (to : State) : Type 0 where
  pub graph : new.graph ≡ old.graph
  pub facts : (fact : Fact) → facts new fact ≡ facts old fact
  pub environment : (fact : Fact) → environment new fact ≡ environment old fact
  pub here : state_of new instance ≡ Some to
  pub others : (other : Inst) → other ≢ instance → state_of new other ≡ state_of old other
  pub counts : (test : State → Bool) → how_many test new + one_if test (state_of old instance) ≡ how_many test old + one_if test (Some to)
  pub item_room : (collection : ItemCollection) → item_room new collection ≡ item_room old collection
  pub tag_room : (collection : TagCollection) → tag_room new collection ≡ tag_room old collection

-- an instance that was ready runs; no fault stopped the store
abbrev pub LetsRun : Machine → Machine → Inst → Type 0
LetsRun old new instance = HasNoFault (facts old) × (state_of old instance ≡ Some Ready) × Moves old new instance Running

-- if the item is there by now, the instance is ready; otherwise it waits
abbrev pub LooksAgain : Machine → Machine → Inst → Addr → Type 0
LooksAgain old new instance address = (IsAbsent (facts old) address × Moves old new instance (Waiting address)) ⊎ (HasItem (facts old) address × Moves old new instance Ready)

-- The instances that wait for an item that one of these puts puts are ready, although it may not be there. No fact, no other instance and no
-- room has changed.
pub record WakesFor (old new : Machine) (puts : List Put) : Type 0 where
  pub graph : new.graph ≡ old.graph
  pub facts : (fact : Fact) → facts new fact ≡ facts old fact
  pub environment : (fact : Fact) → environment new fact ≡ environment old fact
  pub states : (instance : Inst) → state_of new instance ≡ woken_among (addresses puts) (state_of old instance)
  pub running : running_count new ≡ running_count old
  pub item_room : (collection : ItemCollection) → item_room new collection ≡ item_room old collection
  pub tag_room : (collection : TagCollection) → tag_room new collection ≡ tag_room old collection

-- ---- room

-- each collection has room for the puts of the list that go to it
abbrev pub HasRoom : Machine → List Put → Type 0
HasRoom m puts = HasRoomFor m.memory puts

-- ---- refusals

-- there is a collection with this number, and its keys have another number of components
abbrev pub HasOther : List Collection → ℕ → ℕ → Type 0
HasOther collections number components = (collection : Collection) × (slice_get collections number ≡ Some collection) × (collection.components ≢ components)

-- why there may be no second item: there is one, with this value
abbrev pub RefusesSecond : Facts → Addr → Refusal → Type 0
RefusesSecond X address (AlreadyPut value) = items X address value
RefusesSecond X address NoSuchCollection = ⊥
RefusesSecond X address WrongArity = ⊥
RefusesSecond X address NotFromEnvironment = ⊥
RefusesSecond X address (Stopped instance kind) = ⊥
RefusesSecond X address Repeat = ⊥

-- why the environment may not put an item: the first cause that applies
abbrev pub RefusesItem : Graph → Facts → Addr → Refusal → Type 0
RefusesItem g X address NoSuchCollection = slice_get g.items address.collection.0 ≡ None
RefusesItem g X address WrongArity = HasOther g.items address.collection.0 (length address.key)
RefusesItem g X address NotFromEnvironment = AddressIsOf g address × (get_or g.environment_item_puts address.collection.0 false ≡ false)
RefusesItem g X address (Stopped instance kind) = EnvironmentMayPutItem g address × (X (bad instance kind) ≡ true)
RefusesItem g X address (AlreadyPut value) = EnvironmentMayPutItem g address × HasNoFault X × items X address value
RefusesItem g X address Repeat = ⊥

-- why it may not put a tag
abbrev pub RefusesTag : Graph → Facts → Tag → Refusal → Type 0
RefusesTag g X name NoSuchCollection = slice_get g.tags name.collection.0 ≡ None
RefusesTag g X name WrongArity = HasOther g.tags name.collection.0 (length name.key)
RefusesTag g X name NotFromEnvironment = TagIsOf g name × (get_or g.environment_tag_puts name.collection.0 false ≡ false)
RefusesTag g X name (Stopped instance kind) = EnvironmentMayPutTag g name × (X (bad instance kind) ≡ true)
RefusesTag g X name Repeat = EnvironmentMayPutTag g name × HasNoFault X × (X (tag name) ≡ true)
RefusesTag g X name (AlreadyPut value) = ⊥

-- why an instance may not end: the store has a fault
abbrev pub RefusesEnd : Facts → Refusal → Type 0
RefusesEnd X (Stopped instance kind) = X (bad instance kind) ≡ true
RefusesEnd X NoSuchCollection = ⊥
RefusesEnd X WrongArity = ⊥
RefusesEnd X NotFromEnvironment = ⊥
RefusesEnd X (AlreadyPut value) = ⊥
RefusesEnd X Repeat = ⊥

-- the event that ends an instance after its body gave these puts
abbrev pub event_of : End → Inst → List Put → Event
event_of end.Done instance puts = event.Done instance puts
event_of end.DoublePut instance puts = event.Stopped instance DoublePut

-- ---- reads

-- what is at the address: the value of the item there, or `None` if there is no item
abbrev pub IsValueAt : Facts → Addr → Option ℤ → Type 0
IsValueAt X address None = IsAbsent X address
IsValueAt X address (Some value) = items X address value

-- why a step may not read an item: the first cause that applies
abbrev pub RefusesRead : Graph → Addr → Refusal → Type 0
RefusesRead g address NoSuchCollection = slice_get g.items address.collection.0 ≡ None
RefusesRead g address WrongArity = HasOther g.items address.collection.0 (length address.key)
RefusesRead g address NotFromEnvironment = ⊥
RefusesRead g address (Stopped instance kind) = ⊥
RefusesRead g address (AlreadyPut value) = ⊥
RefusesRead g address Repeat = ⊥

-- why the environment may not get one
abbrev pub RefusesGet : Graph → Addr → Refusal → Type 0
RefusesGet g address NoSuchCollection = slice_get g.items address.collection.0 ≡ None
RefusesGet g address WrongArity = HasOther g.items address.collection.0 (length address.key)
RefusesGet g address NotFromEnvironment = AddressIsOf g address × (get_or g.environment_gets address.collection.0 false ≡ false)
RefusesGet g address (Stopped instance kind) = ⊥
RefusesGet g address (AlreadyPut value) = ⊥
RefusesGet g address Repeat = ⊥
