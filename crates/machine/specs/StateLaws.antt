-- The laws of what a graph means, for states instead of lists of events.
use Rattle.std.specs.Prelude.{◌≡◌, ◌⊎◌, ◌↔◌, ℤ, true, false, List, []}
use Rattle.terms.specs.declared.name.Addr.{Addr}
use Rattle.terms.specs.declared.name.Inst.{Inst}
use Rattle.terms.specs.declared.fault.FaultKind.{FaultKind}
use Rattle.terms.specs.declared.producer.Producer.{Producer}
use Rattle.terms.specs.declared.put.Put.{Put}
use Rattle.terms.specs.declared.event.Event.{Event}
use Rattle.terms.specs.declared.event.Event.TheVariants.{Done, Stopped}
use Rattle.terms.specs.Facts.{Fact, item, done, bad, facts, environment, event_facts, environment_facts}
use Rattle.terms.specs.Sets.{Facts, among, with_facts}
use Rattle.graph.specs.Graph.{Graph}
use Rattle.graph.specs.Fits.{IsPrescribed, HasNoFault, HasOneItemEach}
use Rattle.machine.specs.Meaning.{Meaning, IsClean}
use Rattle.machine.specs.Legal.{IsLegal, AreLegal, Needs, IsBlocked, IsQuiet}
use Rattle.machine.specs.State.{IsReached, AreLegalFrom, IsMeaning, Waits, IsUnfinished}

-- the empty state is reached, and each legal list leads from a reached state to a reached state
abbrev pub EmptyIsReached : Type 0
EmptyIsReached = (g : Graph) → IsReached g (among []) (among [])

abbrev pub ReachedGoesOn : Type 0
ReachedGoesOn = (g : Graph) (E X : Facts) (events : List Event) → IsReached g E X → AreLegalFrom g X events → IsReached g (with_facts E (environment events)) (with_facts X (facts events))

-- a legal event leads from a reached state to a reached state
abbrev pub ReachedTakes : Type 0
ReachedTakes = (g : Graph) (E X : Facts) (event : Event) → IsReached g E X → IsLegal g X event → IsReached g (with_facts E (environment_facts event)) (with_facts X (event_facts event))

-- after the facts of a list the same events are legal as after the set of those facts
abbrev pub LegalAsSet : Type 0
LegalAsSet = (g : Graph) (before : List Fact) (events : List Event) → AreLegal g before events ↔ AreLegalFrom g (among before) events

-- a reached state is within the meaning, and has no two items at one address
abbrev pub ReachedIsWithin : Type 0
ReachedIsWithin = (g : Graph) (E X : Facts) → IsReached g E X → (fact : Fact) → X fact ≡ true → Meaning g E fact

abbrev pub ReachedHasOneItem : Type 0
ReachedHasOneItem = (g : Graph) (E X : Facts) → IsReached g E X → HasOneItemEach X

-- a state that is reached and quiet is the meaning, and the meaning is clean
abbrev pub ReachedIsMeaning : Type 0
ReachedIsMeaning = (g : Graph) (E X : Facts) → IsReached g E X → IsQuiet g X → IsMeaning g E X × IsClean g E

-- a graph has one meaning on an environment
abbrev pub OneMeaningEach : Type 0
OneMeaningEach = (g : Graph) (E X Y : Facts) → IsMeaning g E X → IsMeaning g E Y → (fact : Fact) → X fact ≡ Y fact

-- if one reached state has a fault, no reached state on its environment is quiet
abbrev pub ReachedStoppedOrQuiet : Type 0
ReachedStoppedOrQuiet = (g : Graph) (E X Y : Facts) (instance : Inst) (kind : FaultKind) → IsReached g E X → X (bad instance kind) ≡ true → IsReached g E Y → IsQuiet g Y → ⊥

-- in a reached state without a fault, an instance that is prescribed and not done is blocked, or some end of it is legal
abbrev pub ReachedCanGoOn : Type 0
ReachedCanGoOn = (g : Graph) (E X : Facts) (instance : Inst) → IsReached g E X → HasNoFault X → IsPrescribed g X instance → X (done instance) ≡ false
    → IsBlocked g X instance ⊎ ((puts : List Put) × IsLegal g X (Done instance puts)) ⊎ ((kind : FaultKind) × IsLegal g X (Stopped instance kind))

-- what an instance needs it still needs after more facts, as long as that item is not among them
abbrev pub NeedsStays : Type 0
NeedsStays = (g : Graph) (X Y : Facts) (instance : Inst) (address : Addr) → ((fact : Fact) → X fact ≡ true → Y fact ≡ true)
    → ((value : ℤ) (by : Producer) → Y (item address value by) ≡ false) → Needs g X instance address → Needs g Y instance address

-- in a state that is reached and quiet, the waiting instances are those that the meaning leaves unfinished, with the same items
abbrev pub QuietWaits : Type 0
QuietWaits = (g : Graph) (E X : Facts) → IsReached g E X → IsQuiet g X → (instance : Inst) (address : Addr) → Waits g X instance address ↔ IsUnfinished g E instance address
