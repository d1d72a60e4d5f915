-- A tally of a list of puts: how many of them go to each collection.
use Rattle.std.specs.Prelude.{◌≡◌, ℕ, ◌+◌, ◌<◌, ◌≤◌, ◌^◌, List, length, get_or}
use Rattle.terms.specs.declared.name.ItemCollection.{ItemCollection}
use Rattle.terms.specs.declared.name.TagCollection.{TagCollection}
use Rattle.terms.specs.declared.put.Put.{Put}
use Rattle.terms.specs.declared.put.Put.TheVariants as put
use Rattle.graph.specs.Graph.{Graph}
use Rattle.items.specs.Held as items
use Rattle.instances.specs.Known as instances
use Rattle.machine.specs.declared.memory.Memory.{Memory}
use Rattle.machine.specs.declared.tally.Tally.{Tally}
use Rattle.machine.specs.Putting.{items_to, tags_to}

-- what was counted for a collection; nothing, if the tally has no place for it
abbrev pub items_counted : Tally → ItemCollection → ℕ
items_counted t collection = get_or t.items.items collection.0 0

abbrev pub tags_counted : Tally → TagCollection → ℕ
tags_counted t collection = get_or t.tags.items collection.0 0

-- the tally has a place for the collection of the put
abbrev pub HasPlace : Tally → Put → Type 0
HasPlace t (put.Item address value) = address.collection.0 < length t.items.items
HasPlace t (put.Tag name) = name.collection.0 < length t.tags.items

-- one more put of the collection can be counted
abbrev pub IsBelowMost : Tally → Put → Type 0
IsBelowMost t (put.Item address value) = items_counted t address.collection + 1 < 2 ^ 128
IsBelowMost t (put.Tag name) = tags_counted t name.collection + 1 < 2 ^ 128

-- no count is above this number
pub record IsUpTo (most : ℕ) (t : Tally) : Type 0 where
  pub items : (collection : ItemCollection) → items_counted t collection ≤ most
  pub tags : (collection : TagCollection) → tags_counted t collection ≤ most

-- it has a place for each collection of the graph
pub record HasPlaces (g : Graph) (t : Tally) : Type 0 where
  pub items : length t.items.items ≡ length g.items
  pub tags : length t.tags.items ≡ length g.tags

-- the places for collections are as many
pub record AreAsMany (old new : Tally) : Type 0 where
  pub items : length new.items.items ≡ length old.items.items
  pub tags : length new.tags.items ≡ length old.tags.items

-- the puts of the list were counted
pub record Counts (t : Tally) (puts : List Put) : Type 0 where
  pub items : (collection : ItemCollection) → items_counted t collection ≡ items_to collection puts
  pub tags : (collection : TagCollection) → tags_counted t collection ≡ tags_to collection puts

-- the puts of one more list were counted
pub record Adds (old new : Tally) (puts : List Put) : Type 0 where
  pub items : (collection : ItemCollection) → items_counted new collection ≡ items_counted old collection + items_to collection puts
  pub tags : (collection : TagCollection) → tags_counted new collection ≡ tags_counted old collection + tags_to collection puts
  pub collections : AreAsMany old new

-- each collection has room for as many entries as were counted for it
pub record HasRoomCounted (m : Memory) (t : Tally) : Type 0 where
  pub items : (collection : ItemCollection) → items_counted t collection ≤ items.room_for m.items collection
  pub tags : (collection : TagCollection) → tags_counted t collection ≤ instances.room_for m.instances collection
