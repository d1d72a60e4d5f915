-- The state of a store: the facts X that it has, of which the environment put E. Both are sets, so lists of events, their order
-- and schedules do not matter.
use Rattle.std.specs.Prelude.{◌≡◌, ◌↔◌, ⊤, ℤ, true, false, List, [], ◌∷◌}
use Rattle.terms.specs.declared.name.Addr.{Addr}
use Rattle.terms.specs.declared.name.Tag.{Tag}
use Rattle.terms.specs.declared.name.Inst.{Inst}
use Rattle.terms.specs.declared.producer.Producer.{Producer}
use Rattle.terms.specs.declared.event.Event.{Event}
use Rattle.terms.specs.Facts.{Fact, tag, item, done, event_facts}
use Rattle.terms.specs.Sets.{Facts, with_facts, stated, put_by_environment}
use Rattle.steptree.specs.Bodies.{Asks}
use Rattle.graph.specs.Graph.{Graph, Prescribes, BodyMeans}
use Rattle.graph.specs.Fits.{IsPrescribed}
use Rattle.machine.specs.Meaning.{Meaning}
use Rattle.machine.specs.Legal.{IsLegal, AreLegal, Needs}

-- some legal list of events from the empty store states the facts X, and E is what the environment put by them
pub record IsReached (g : Graph) (E X : Facts) : Type 0 where
  pub events : List Event
  pub legal : AreLegal g [] events
  pub facts : (fact : Fact) → stated events fact ≡ X fact
  pub environment : (fact : Fact) → put_by_environment events fact ≡ E fact

-- each event of the list may come after the facts of the set and those of the events before it
abbrev pub AreLegalFrom : Graph → Facts → List Event → Type 0
AreLegalFrom g X [] = ⊤
AreLegalFrom g X (event ∷ events) = IsLegal g X event × AreLegalFrom g (with_facts X (event_facts event)) events

-- X is the meaning of the graph on E, no less and no more
abbrev pub IsMeaning : Graph → Facts → Facts → Type 0
IsMeaning g E X = (fact : Fact) → (X fact ≡ true) ↔ Meaning g E fact

-- the instance is prescribed and not done, and needs this item: if nothing is left to do, it waits for it
pub record Waits (g : Graph) (X : Facts) (instance : Inst) (address : Addr) : Type 0 where
  pub prescribed : IsPrescribed g X instance
  pub not_done : X (done instance) ≡ false
  pub needs : Needs g X instance address

-- the items of the meaning, as pairs of an address and a value
abbrev pub items_meant : Graph → Facts → Addr → ℤ → Type 0
items_meant g E address value = (by : Producer) × Meaning g E (item address value by)

-- a tag of the meaning prescribes the instance; in the meaning the instance is not done; over the meaning's items it needs this one
pub record IsUnfinished (g : Graph) (E : Facts) (instance : Inst) (address : Addr) : Type 0 where
  pub name : Tag
  pub name_is_meant : Meaning g E (tag name)
  pub prescribes : Prescribes g name instance
  pub not_done : Meaning g E (done instance) → ⊥
  pub needs : BodyMeans g instance (items_meant g E) (Asks address)
