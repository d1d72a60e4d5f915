-- One change of what a store holds, before the changes are put together.
use Rattle.std.specs.Prelude.{◌≡◌, ⊤, ℕ, ◌+◌, ◌<◌, ◌≤◌, false, List, [], ◌∷◌, length}
use Rattle.terms.specs.declared.name.Addr.{Addr}
use Rattle.terms.specs.declared.name.Inst.{Inst}
use Rattle.terms.specs.declared.name.ItemCollection.{ItemCollection}
use Rattle.terms.specs.declared.name.TagCollection.{TagCollection}
use Rattle.terms.specs.declared.producer.Producer.{Producer}
use Rattle.terms.specs.declared.producer.Producer.TheVariants.{Env, By}
use Rattle.terms.specs.declared.put.Put.{Put}
use Rattle.terms.specs.declared.put.Put.TheVariants as put
use Rattle.terms.specs.Facts.{Fact, tag, item}
use Rattle.terms.specs.Sets.{with_facts}
use Rattle.graph.specs.Fits.{IsAbsent, addresses, IsIn}
use Rattle.items.specs.Held.{Held, IsOfCollection}
use Rattle.items.specs.Held as items
use Rattle.instances.specs.Known.{Known, state_at, prescriber_at}
use Rattle.instances.specs.Known as instances
use Rattle.machine.specs.declared.memory.Memory.{Memory}
use Rattle.machine.specs.Memory.{facts_of, environment_of, AreListed, MovesOn}
use Rattle.machine.specs.Putting.{items_to, tags_to, HasRoomFor}

-- what a put by this producer states
abbrev pub fact_of : Producer → Put → Fact
fact_of by (put.Item address value) = item address value by
fact_of by (put.Tag name) = tag name

-- the part of it that the environment put
abbrev pub given_by : Producer → Put → List Fact
given_by Env one = fact_of Env one ∷ []
given_by (By instance number) one = []

-- the put can be made: if it is of an item, its address has none; and its collection has room for it
abbrev pub CanTake : Memory → Put → Type 0
CanTake m (put.Item address value) = IsAbsent (facts_of m) address × IsOfCollection m.items address.collection × (0 < items.room_for m.items address.collection)
CanTake m (put.Tag name) = 0 < instances.room_for m.instances name.collection

-- a put of the environment states something that is not there
abbrev pub IsNewTo : Memory → Producer → Put → Type 0
IsNewTo m Env one = facts_of m (fact_of Env one) ≡ false
IsNewTo m (By instance number) one = ⊤

-- if the put is of an item, its collection is there, and its address has no item
abbrev pub IsFree : Memory → Put → Type 0
IsFree m (put.Item address value) = IsAbsent (facts_of m) address × IsOfCollection m.items address.collection
IsFree m (put.Tag name) = ⊤

-- the same for each put of the list, and no two of its items are at one address
abbrev pub AreFree : Memory → List Put → Type 0
AreFree m [] = ⊤
AreFree m (one ∷ puts) = IsFree m one × ((address : Addr) → IsIn address (addresses (one ∷ [])) → IsIn address (addresses puts) → ⊥) × AreFree m puts

-- the puts of the list can be made one after the other
abbrev pub CanTakeAll : Memory → List Put → Type 0
CanTakeAll m puts = AreFree m puts × HasRoomFor m puts

-- These facts are added; `given` are those that the environment put. The room of each collection shrinks by at most the number of
-- these puts that go to it.
pub record Grows (old new : Memory) (more given : List Fact) (puts : List Put) : Type 0 where
  pub facts : (fact : Fact) → facts_of new fact ≡ with_facts (facts_of old) more fact
  pub environment : (fact : Fact) → environment_of new fact ≡ with_facts (environment_of old) given fact
  pub states : (instance : Inst) → MovesOn new (state_at old.instances instance) (state_at new.instances instance)
  pub item_collections : length new.items.items.room ≡ length old.items.items.room
  pub tag_collections : length new.instances.tags.room ≡ length old.instances.tags.room
  pub prescribers : (number : ℕ) → prescriber_at new.instances number ≡ prescriber_at old.instances number
  pub listed : AreListed new
  pub item_room : (collection : ItemCollection) → items.room_for old.items collection ≤ items.room_for new.items collection + items_to collection puts
  pub tag_room : (collection : TagCollection) → instances.room_for old.instances collection ≤ instances.room_for new.instances collection + tags_to collection puts
