-- Which events may be committed one after another, and when nothing is left to do.
use Rattle.std.specs.Prelude.{◌≡◌, ◌⊎◌, ⊤, ℤ, true, false, List, [], ◌∷◌, ◌++◌}
use Rattle.terms.specs.declared.name.Addr.{Addr}
use Rattle.terms.specs.declared.name.Inst.{Inst}
use Rattle.terms.specs.declared.fault.FaultKind.{FaultKind}
use Rattle.terms.specs.declared.fault.FaultKind.TheVariants.{DoublePut}
use Rattle.terms.specs.declared.producer.Producer.{Producer}
use Rattle.terms.specs.declared.put.Put.{Put}
use Rattle.terms.specs.declared.event.Event.{Event}
use Rattle.terms.specs.declared.event.Event.TheVariants.{EnvItem, EnvTag, Done, Stopped}
use Rattle.terms.specs.Facts.{Fact, item, done, event_facts}
use Rattle.terms.specs.Sets.{Facts, among}
use Rattle.steptree.specs.Bodies.{Asks}
use Rattle.graph.specs.Graph.{Graph, BodyMeans}
use Rattle.graph.specs.Fits.{IsPrescribed, HasNoFault, addresses, IsIn, IsTwiceIn, AreNew, ItemMayCome, TagMayCome}
use Rattle.machine.specs.Meaning.{items, BodyGives, BodyFaults}

-- An item of these puts is there, or appears twice among them. Who put it does not matter: an instance that is not done has put none.
abbrev pub Conflicts : Facts → List Put → Type 0
Conflicts X puts = (address : Addr) × (IsTwiceIn address (addresses puts)
    ⊎ (IsIn address (addresses puts) × ((value : ℤ) × (by : Producer) × (X (item address value by) ≡ true))))

-- an instance is at fault by its body, or by a double put of what its body gives
abbrev pub IsAtFault : Graph → Facts → Inst → FaultKind → Type 0
IsAtFault g X instance kind = BodyFaults g X instance kind ⊎ ((kind ≡ DoublePut) × ((puts : List Put) × BodyGives g X instance puts × Conflicts X puts))

abbrev pub IsLegalAs : Graph → Facts → Event → Type 0
IsLegalAs g X (EnvItem address value) = ItemMayCome g X address
IsLegalAs g X (EnvTag name) = TagMayCome g X name
IsLegalAs g X (Done instance puts) = IsPrescribed g X instance × (X (done instance) ≡ false) × BodyGives g X instance puts × AreNew X puts
IsLegalAs g X (Stopped instance kind) = IsPrescribed g X instance × (X (done instance) ≡ false) × IsAtFault g X instance kind

-- the event may come after these facts; after a fault no event may
pub record IsLegal (g : Graph) (X : Facts) (event : Event) : Type 0 where
  pub working : HasNoFault X
  pub event_is_legal : IsLegalAs g X event

-- the bodies of steps mean the event: its puts are what the body gives, or its fault is the body's or a double put
abbrev pub IsMeant : Graph → Facts → Event → Type 0
IsMeant g X (EnvItem address value) = ⊤
IsMeant g X (EnvTag name) = ⊤
IsMeant g X (Done instance puts) = BodyGives g X instance puts
IsMeant g X (Stopped instance kind) = IsAtFault g X instance kind

-- each event of the list may come after these facts and those of the events before it
abbrev pub AreLegal : Graph → List Fact → List Event → Type 0
AreLegal g before [] = ⊤
AreLegal g before (event ∷ events) = IsLegal g (among before) event × AreLegal g (before ++ event_facts event) events

-- over the items of the set the instance needs this one, which is not there: the body asks for it, and finds nothing
abbrev pub Needs : Graph → Facts → Inst → Addr → Type 0
Needs g X instance address = BodyMeans g instance (items X) (Asks address)

-- it needs some item
abbrev pub IsBlocked : Graph → Facts → Inst → Type 0
IsBlocked g X instance = (address : Addr) × Needs g X instance address

-- no instance is at fault, and each prescribed instance is done or asks for an item that is not there
pub record IsQuiet (g : Graph) (X : Facts) : Type 0 where
  pub no_fault : HasNoFault X
  pub done_or_blocked : (instance : Inst) → IsPrescribed g X instance → (X (done instance) ≡ true) ⊎ IsBlocked g X instance
