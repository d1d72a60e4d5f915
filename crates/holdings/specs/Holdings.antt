-- What is held while the files of a store are read: finite maps by place, the image that lists them, and what each change does.
use Rattle.std.specs.Prelude.{◌≡◌, ⊤, ℕ, ℤ, ◌<◌, Bool, List, length, map, Option, None}
use Rattle.std.specs.List.{AllByRecursion}
use Rattle.std.specs.FinMap.{FinMap, empty, entries, from_entries, insert}
use Rattle.terms.specs.declared.name.Addr.{Addr}
use Rattle.terms.specs.declared.name.Tag.{Tag}
use Rattle.terms.specs.declared.name.Inst.{Inst}
use Rattle.terms.specs.declared.fault.FaultKind.{FaultKind}
use Rattle.terms.specs.declared.producer.Producer.{Producer}
use Rattle.codec.specs.declared.image.Image.{Image}
use Rattle.codec.specs.Entries.{Item, MarkedTag}
use Rattle.codec.specs.Spelling.{HasPutNumber}
use Rattle.maps.specs.Numbered.{Place, place_cmp}
use Rattle.items.specs.Held.{place}
use Rattle.instances.specs.Known.{inst_place, tag_place}
use Rattle.graph.specs.Graph.{Graph}
use Rattle.holdings.specs.declared.parts.Parts.{Parts}
use Rattle.holdings.specs.Listing.{items_of, tags_of, insts_of}
use Rattle.codec.specs.Image.{environment_in, facts_in}
use Rattle.terms.specs.Sets.{Facts}

-- how many collections of items and of tags there are, and how many steps
pub record Counts : Type 0 where
  pub items : ℕ
  pub tags : ℕ
  pub steps : ℕ

abbrev pub counts_of : Graph → Counts
counts_of g = record { items = length g.items; tags = length g.tags; steps = length g.steps }

-- the fault; the items with their values and producers, the tags with their marks, and the instances that are done, by place
pub record Holdings : Type 0 where
  pub fault : Option (Inst × FaultKind)
  pub items : FinMap place_cmp (ℤ × Producer)
  pub tags : FinMap place_cmp Bool
  pub done : FinMap place_cmp ⊤
  pub counts : Counts

-- the image that lists what is held
abbrev pub image_of : Holdings → Image
image_of h = record { fault = h.fault; items = items_of (entries h.items); tags = tags_of (entries h.tags); done = insts_of (entries h.done) }

-- the facts that are held, and those that the environment put
abbrev pub facts_held : Holdings → Facts
facts_held h = facts_in (image_of h)

abbrev pub environment_held : Holdings → Facts
environment_held h = environment_in (image_of h)

-- the number of each put that is held is one that a put may have
abbrev pub HavePutNumbers : Holdings → Type 0
HavePutNumbers h = AllByRecursion HasPutNumber (image_of h).items

-- there is each collection of the graph, and each step
abbrev pub IsFor : Graph → Holdings → Type 0
IsFor g h = h.counts ≡ counts_of g

-- nothing is held, for the collections of this graph
abbrev pub nothing_of : Graph → Holdings
nothing_of g = record { fault = None; items = empty; tags = empty; done = empty; counts = counts_of g }

-- ---- changes

abbrev pub with_item : Holdings → Addr → ℤ → Producer → Holdings
with_item h address value by =
    record { fault = h.fault; items = insert h.items (place address) (value, by); tags = h.tags; done = h.done; counts = h.counts }

abbrev pub with_tag : Holdings → Tag → Bool → Holdings
with_tag h name mark =
    record { fault = h.fault; items = h.items; tags = insert h.tags (tag_place name) mark; done = h.done; counts = h.counts }

abbrev pub with_done : Holdings → Inst → Holdings
with_done h instance =
    record { fault = h.fault; items = h.items; tags = h.tags; done = insert h.done (inst_place instance) tt; counts = h.counts }

abbrev pub with_fault : Holdings → Option (Inst × FaultKind) → Holdings
with_fault h fault =
    record { fault = fault; items = h.items; tags = h.tags; done = h.done; counts = h.counts }

-- ---- its parts

-- these maps are taken over, each with its collections; no instance waits
pub record ArePartsOf (h : Holdings) (parts : Parts) : Type 0 where
  pub fault : parts.fault ≡ h.fault
  pub items : parts.items.items.items ≡ h.items
  pub item_collections : length parts.items.items.room ≡ h.counts.items
  pub waiting : parts.items.waiting ≡ empty
  pub tags : parts.tags.items ≡ h.tags
  pub tag_collections : length parts.tags.room ≡ h.counts.tags
  pub done : parts.done.items ≡ h.done
  pub steps : length parts.done.room ≡ h.counts.steps

-- ---- from an image

-- each name of the image is of a collection or a step that the graph has
pub record AreWithin (g : Graph) (image : Image) : Type 0 where
  pub items : AllByRecursion (λ it. it.0.collection.0 < length g.items) image.items
  pub tags : AllByRecursion (λ marked. marked.0.collection.0 < length g.tags) image.tags
  pub done : AllByRecursion (λ instance. instance.collection.0 < length g.steps) image.done

-- an item, a tag and a done instance of an image, each as an entry of its map
abbrev pub item_entry : Item → Place × (ℤ × Producer)
item_entry it = (place it.0, (it.1, it.2))

abbrev pub tag_entry : MarkedTag → Place × Bool
tag_entry marked = (tag_place marked.0, marked.1)

abbrev pub done_entry : Inst → Place × ⊤
done_entry instance = (inst_place instance, tt)

-- these items, tags or done instances are held in the place of those that were
abbrev pub with_items : Holdings → List Item → Holdings
with_items h items =
    record { fault = h.fault; items = from_entries (map item_entry items); tags = h.tags; done = h.done; counts = h.counts }

abbrev pub with_tags : Holdings → List MarkedTag → Holdings
with_tags h tags =
    record { fault = h.fault; items = h.items; tags = from_entries (map tag_entry tags); done = h.done; counts = h.counts }

abbrev pub with_ended : Holdings → List Inst → Holdings
with_ended h instances =
    record { fault = h.fault; items = h.items; tags = h.tags; done = from_entries (map done_entry instances); counts = h.counts }
