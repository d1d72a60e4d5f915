-- Ends of instances that come together, each behind those before it: how many of them come as they are, and whether the next one is a fault.
use Rattle.std.specs.Prelude.{◌≡◌, ◌≤◌, ⊤, List, [], ◌∷◌, ◌++◌, take, drop, length, Option, Some, None}
use Rattle.std.specs.List.{AllByRecursion, Contains}
use Rattle.terms.specs.declared.name.Inst.{Inst}
use Rattle.terms.specs.declared.name.ItemCollection.{ItemCollection}
use Rattle.terms.specs.declared.name.TagCollection.{TagCollection}
use Rattle.terms.specs.declared.fault.FaultKind.{FaultKind}
use Rattle.terms.specs.declared.fault.FaultKind.TheVariants.{DoublePut}
use Rattle.terms.specs.declared.put.Put.{Put}
use Rattle.terms.specs.declared.event.Event.{Event}
use Rattle.terms.specs.declared.event.Event.TheVariants as event
use Rattle.terms.specs.Facts.{Fact, event_facts}
use Rattle.terms.specs.Sets.{Facts, with_facts}
use Rattle.graph.specs.Graph.{Graph}
use Rattle.items.specs.Once.{IsOnceEach}
use Rattle.instances.specs.declared.state.State.TheVariants.{Ready, Running}
use Rattle.machine.specs.declared.group.Ended.{Ended}
use Rattle.machine.specs.Machine.{Ends, Machine, Takes, environment, facts, item_room, puts_of, state_of, tag_room}
use Rattle.machine.specs.Meaning.{BodyFaults, BodyGives}
use Rattle.machine.specs.State.{AreLegalFrom}

-- ---- the ends of a group, before they are looked at

-- the event ends an instance that runs here
abbrev pub EndsRunning : Machine → Event → Type 0
EndsRunning m (event.EnvItem address value) = ⊥
EndsRunning m (event.EnvTag name) = ⊥
EndsRunning m (event.Done instance puts) = state_of m instance ≡ Some Running
EndsRunning m (event.Stopped instance kind) = state_of m instance ≡ Some Running

-- the event ends its instance as the body says over these items
abbrev pub IsSaid : Graph → Facts → Event → Type 0
IsSaid g X (event.EnvItem address value) = ⊥
IsSaid g X (event.EnvTag name) = ⊥
IsSaid g X (event.Done instance puts) = BodyGives g X instance puts
IsSaid g X (event.Stopped instance kind) = BodyFaults g X instance kind

-- each event ends its instance as the body says over these items and those that the ends before it put
abbrev pub AreSaid : Graph → Facts → List Event → Type 0
AreSaid g X [] = ⊤
AreSaid g X (event ∷ events) = IsSaid g X event × AreSaid g (with_facts X (event_facts event)) events

-- the instances that the events end, in their order
abbrev pub ended_by : List Event → List Inst
ended_by [] = []
ended_by (event.EnvItem address value ∷ events) = ended_by events
ended_by (event.EnvTag name ∷ events) = ended_by events
ended_by (event.Done instance puts ∷ events) = instance ∷ ended_by events
ended_by (event.Stopped instance kind ∷ events) = instance ∷ ended_by events

-- each ends an instance that runs here, no two of them the same, and as its body says over the items that are here and those that the ends before it put
pub record AreEndsHere (m : Machine) (events : List Event) : Type 0 where
  pub each : AllByRecursion (EndsRunning m) events
  pub said : AreSaid m.graph (facts m) events
  pub once : IsOnceEach (ended_by events)

-- each event ends the instance at its place; more instances may follow
abbrev pub AreEndedBy : List Event → List Inst → Type 0
AreEndedBy [] instances = ⊤
AreEndedBy (event ∷ events) [] = ⊥
AreEndedBy (event ∷ events) (instance ∷ instances) = Ends event instance × AreEndedBy events instances

-- each of these instances runs here, and none is listed twice
pub record AreRunning (m : Machine) (instances : List Inst) : Type 0 where
  pub each : AllByRecursion (λ instance. state_of m instance ≡ Some Running) instances
  pub once : IsOnceEach instances

-- the puts of all, in their order
abbrev pub puts_of_all : List Event → List Put
puts_of_all [] = []
puts_of_all (event ∷ events) = puts_of event ++ puts_of_all events

-- ---- what of them comes

-- the event, as a fault of this kind of the instance that it ends
abbrev pub stopped_as : FaultKind → Event → Event
stopped_as kind (event.EnvItem address value) = event.EnvItem address value
stopped_as kind (event.EnvTag name) = event.EnvTag name
stopped_as kind (event.Done instance puts) = event.Stopped instance kind
stopped_as kind (event.Stopped instance own) = event.Stopped instance kind

-- the first of these events as such a fault, if there is one; none without a fault
abbrev pub stop_at : Option FaultKind → List Event → List Event
stop_at None rest = []
stop_at (Some kind) [] = []
stop_at (Some kind) (event ∷ rest) = stopped_as kind event ∷ []

-- what of these ends comes: the first ones as they are, and then perhaps one more, as a fault
abbrev pub cut : Ended → List Event → List Event
cut ended events = take ended.done events ++ stop_at ended.stopped (drop ended.done events)

-- the event says that its instance is done
abbrev pub IsDone : Event → Type 0
IsDone (event.EnvItem address value) = ⊥
IsDone (event.EnvTag name) = ⊥
IsDone (event.Done instance puts) = ⊤
IsDone (event.Stopped instance kind) = ⊥

-- why the next of these events is a fault of this kind: it is one, or its puts conflict
abbrev pub StopsNext : FaultKind → List Event → Type 0
StopsNext kind [] = ⊥
StopsNext kind (event.EnvItem address value ∷ rest) = ⊥
StopsNext kind (event.EnvTag name ∷ rest) = ⊥
StopsNext kind (event.Done instance puts ∷ rest) = kind ≡ DoublePut
StopsNext kind (event.Stopped instance own ∷ rest) = kind ≡ own

-- without a fault all of them come; with one, there is a next event that stops so
abbrev pub StopsAt : Option FaultKind → List Event → Type 0
StopsAt None rest = rest ≡ []
StopsAt (Some kind) rest = StopsNext kind rest

-- The answer to a look at a group of ends: the first `done` of them are ends of instances that are done, and then comes a fault, or no more. What comes
-- is legal, each after those before it.
pub record EndsTogether (g : Graph) (X : Facts) (events : List Event) (ended : Ended) : Type 0 where
  pub within : ended.done ≤ length events
  pub done : AllByRecursion IsDone (take ended.done events)
  pub stops : StopsAt ended.stopped (drop ended.done events)
  pub legal : AreLegalFrom g X (cut ended events)

-- the answer to a look at these ends; and just what comes of them is left
abbrev pub LeavesWhatComes : Graph → Facts → List Event → List Event → Ended → Type 0
LeavesWhatComes g X old new ended = EndsTogether g X old ended × (new ≡ cut ended old)

-- ---- how they are taken

-- the events are taken, one behind another
abbrev pub TakesInTurn : Machine → List Event → Machine → Type 0
TakesInTurn old [] new = new ≡ old
TakesInTurn old (event ∷ events) new = (mid : Machine) × Takes old mid event × TakesInTurn mid events new

-- each of these instances is ready again, and nothing else has changed, but that there may be more room
pub record GivesAllBack (old new : Machine) (instances : List Inst) : Type 0 where
  pub graph : new.graph ≡ old.graph
  pub facts : (fact : Fact) → facts new fact ≡ facts old fact
  pub environment : (fact : Fact) → environment new fact ≡ environment old fact
  pub ready : AllByRecursion (λ instance. state_of new instance ≡ Some Ready) instances
  pub others : (other : Inst) → (Contains instances other → ⊥) → state_of new other ≡ state_of old other
  pub item_room : (collection : ItemCollection) → item_room old collection ≤ item_room new collection
  pub tag_room : (collection : TagCollection) → tag_room old collection ≤ tag_room new collection
