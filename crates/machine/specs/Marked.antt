-- What a store holds, and which of it is marked.
use Rattle.std.specs.Prelude.{◌≡◌, ℤ, Bool, true, false, cond, ◌&&◌, List, [], ◌∷◌, Option, Some, None, IsSomeAnd}
use Rattle.std.specs.Option.{option_map}
use Rattle.std.specs.FinMap.{get}
use Rattle.terms.specs.declared.name.Addr.{Addr}
use Rattle.terms.specs.declared.name.Inst.{Inst}
use Rattle.terms.specs.declared.name.Tag.{Tag}
use Rattle.terms.specs.declared.producer.Producer.{Producer}
use Rattle.terms.specs.Facts.{Fact, tag, item, done, bad}
use Rattle.terms.specs.Sets.{Facts, with_facts}
use Rattle.holdings.specs.ImageLaws.{is_item}
use Rattle.maps.specs.Marked.{AreMarksOf, MarkedPlaces}
use Rattle.items.specs.Held.{item_at, place}
use Rattle.instances.specs.declared.standing.Standing.{Standing}
use Rattle.instances.specs.Known.{inst_place, mark_of, state_at, tag_place}
use Rattle.instances.specs.MarkedDone.{is_over}
use Rattle.machine.specs.Memory.{is_done}
use Rattle.machine.specs.Machine.{Machine, facts}

-- a store; and its items, its tags and its instances, each with whether it is marked
pub record Marks : Type 0 where
  pub store : Machine
  pub items : MarkedPlaces (ℤ × Producer)
  pub tags : MarkedPlaces Bool
  pub done : MarkedPlaces Standing

-- there is an entry, it is marked, and its value passes the test
abbrev pub marked_by : {X : Type 0} → (X → Bool) → Option (X × Bool) → Bool
marked_by test None = false
marked_by test (Some entry) = entry.1 && test entry.0

-- the facts of what is marked: an item by its own value and producer, a tag that is there, an instance that is done
abbrev pub marked : Marks → Facts
marked m (tag name) = marked_by (λ _. true) (get m.tags (tag_place name))
marked m (item address value by) = marked_by (λ there. is_item (Some there) value by) (get m.items (place address))
marked m (done instance) = marked_by is_over (get m.done (inst_place instance))
marked m (bad instance kind) = false

-- ---- what keeps to the store

abbrev pub there_by : {X : Type 0} → (X → Bool) → Option X → Bool
there_by test None = false
there_by test (Some value) = test value

-- the marks are at what the store has
pub record AreOfStore (m : Marks) : Type 0 where
  pub items : AreMarksOf m.store.memory.items.items.items m.items
  pub tags : AreMarksOf m.store.memory.instances.tags.items m.tags
  pub done : (instance : Inst) → there_by is_over (option_map (λ entry. entry.0) (get m.done (inst_place instance))) ≡ is_done (state_at m.store.memory.instances instance)

-- what is marked is a part of the store
abbrev pub IsPartOfStore : Marks → Type 0
IsPartOfStore m = (fact : Fact) → marked m fact ≡ true → facts m.store fact ≡ true

-- it is this store, and nothing is marked
pub record IsUnmarked (whole : Machine) (m : Marks) : Type 0 where
  pub store : m.store ≡ whole
  pub unmarked : (fact : Fact) → marked m fact ≡ false

-- ---- what the store has, and whether it is marked

-- the item at an address: its value, who put it, and whether it is marked
abbrev pub item_in : Marks → Addr → Option (ℤ × Producer × Bool)
item_in m address = option_map (λ there. (there.0, there.1, marked m (item address there.0 there.1))) (item_at m.store.memory.items address)

-- a tag that is there: whether the environment put it, and whether it is marked
abbrev pub tag_in : Marks → Tag → Option (Bool × Bool)
tag_in m name = option_map (λ given. (given, marked m (tag name))) (mark_of m.store.memory.instances name)

-- an instance that is done: whether it is marked
abbrev pub done_in : Marks → Inst → Option Bool
done_in m instance = cond (facts m.store (done instance)) (Some (marked m (done instance))) None

-- ---- one more mark

abbrev pub item_facts : Addr → Option (ℤ × Producer) → List Fact
item_facts address None = []
item_facts address (Some there) = item address there.0 there.1 ∷ []

-- the fact, if the store has it
abbrev pub if_there : Bool → Fact → List Fact
if_there has fact = cond has (fact ∷ []) []

-- the store is the same; these facts are marked, and nothing else has changed
pub record MarksMore (old new : Marks) (more : List Fact) : Type 0 where
  pub store : new.store ≡ old.store
  pub marked : (fact : Fact) → marked new fact ≡ with_facts (marked old) more fact

-- the item at the address is marked, if there is one
abbrev pub MarksItem : Marks → Marks → Addr → Type 0
MarksItem old new address = MarksMore old new (item_facts address (item_at old.store.memory.items address))

abbrev pub MarksTag : Marks → Marks → Tag → Type 0
MarksTag old new name = MarksMore old new (if_there (facts old.store (tag name)) (tag name))

abbrev pub MarksDone : Marks → Marks → Inst → Type 0
MarksDone old new instance = MarksMore old new (if_there (facts old.store (done instance)) (done instance))

-- ---- what is left

-- the store has an item at this address, and it is not marked
abbrev pub IsItemLeft : Marks → Addr → Type 0
IsItemLeft m address = IsSomeAnd (item_in m address) (λ there. there.2 ≡ false)

-- the store has this fact, and it is not marked
pub record IsLeft (m : Marks) (fact : Fact) : Type 0 where
  pub there : facts m.store fact ≡ true
  pub unmarked : marked m fact ≡ false

-- everything of one kind that the store has is marked
abbrev pub AreItemsMarked : Marks → Type 0
AreItemsMarked m = (address : Addr) (value : ℤ) (by : Producer) → facts m.store (item address value by) ≡ true → marked m (item address value by) ≡ true

abbrev pub AreTagsMarked : Marks → Type 0
AreTagsMarked m = (name : Tag) → facts m.store (tag name) ≡ true → marked m (tag name) ≡ true

abbrev pub AreDoneMarked : Marks → Type 0
AreDoneMarked m = (instance : Inst) → facts m.store (done instance) ≡ true → marked m (done instance) ≡ true
