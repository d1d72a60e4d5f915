-- How many puts of a list go to each collection, and where there is room for them.
use Rattle.std.specs.Prelude.{◌≡◌, ℕ, pos, ◌+◌, ◌≤◌, if◌then◌else◌, nat_eq, List, [], ◌∷◌}
use Rattle.terms.specs.declared.name.ItemCollection.{ItemCollection}
use Rattle.terms.specs.declared.name.TagCollection.{TagCollection}
use Rattle.terms.specs.declared.put.Put.{Put}
use Rattle.terms.specs.declared.put.Put.TheVariants as put
use Rattle.items.specs.Held as items
use Rattle.instances.specs.Known as instances
use Rattle.machine.specs.declared.memory.Memory.{Memory}

-- how many of these puts are items of a collection, and how many are tags of one
abbrev pub items_to : ItemCollection → List Put → ℕ
items_to collection [] = 0
items_to collection (put.Item address value ∷ puts) = (if nat_eq address.collection.0 collection.0 then 1 else 0) + items_to collection puts
items_to collection (put.Tag name ∷ puts) = items_to collection puts

abbrev pub tags_to : TagCollection → List Put → ℕ
tags_to collection [] = 0
tags_to collection (put.Item address value ∷ puts) = tags_to collection puts
tags_to collection (put.Tag name ∷ puts) = (if nat_eq name.collection.0 collection.0 then 1 else 0) + tags_to collection puts

-- each collection has room for the puts of the list that go to it
pub record HasRoomFor (m : Memory) (puts : List Put) : Type 0 where
  pub items : (collection : ItemCollection) → items_to collection puts ≤ items.room_for m.items collection
  pub tags : (collection : TagCollection) → tags_to collection puts ≤ instances.room_for m.instances collection

-- ---- an example

-- items of two collections, and a tag whose collection has the number of the first
abbrev pub one_to_each : List Put
one_to_each =
    put.Item (record { collection = record { 0 = 0 }; key = pos 7 ∷ [] }) (pos 1) ∷ put.Item (record { collection = record { 0 = 1 }; key = pos 7 ∷ [] }) (pos 1)
    ∷ put.Tag (record { collection = record { 0 = 0 }; key = pos 7 ∷ [] }) ∷ []

-- each collection is counted apart, and items and tags are
abbrev pub EachIsCounted : Type 0
EachIsCounted =
    (items_to (record { 0 = 0 }) one_to_each ≡ 1) × (items_to (record { 0 = 1 }) one_to_each ≡ 1) × (items_to (record { 0 = 2 }) one_to_each ≡ 0)
    × (tags_to (record { 0 = 0 }) one_to_each ≡ 1) × (tags_to (record { 0 = 1 }) one_to_each ≡ 0)
