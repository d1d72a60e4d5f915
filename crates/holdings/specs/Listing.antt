-- The lists of an image, made of finite maps.
use Rattle.std.specs.Prelude.{⊤, ℤ, Bool, List, map}
use Rattle.terms.specs.declared.name.Addr.{Addr}
use Rattle.terms.specs.declared.name.Inst.{Inst}
use Rattle.terms.specs.declared.producer.Producer.{Producer}
use Rattle.codec.specs.Entries.{Item, MarkedTag}
use Rattle.maps.specs.Numbered.{Place}
use Rattle.items.specs.Held.{address_at}
use Rattle.instances.specs.Known.{instance_at, tag_at}

-- an instance of the number of its step and its key
abbrev pub inst_at : Place → Inst
inst_at at = instance_at at.0 at.1

-- an address with its item, as an image lists it
abbrev pub as_listed : Addr × (ℤ × Producer) → Item
as_listed held = (held.0, held.1.0, held.1.1)

-- the items in the order of their addresses
abbrev pub items_of : List (Place × (ℤ × Producer)) → List Item
items_of list = map as_listed (map (λ entry. (address_at entry.0, entry.1)) list)

-- the tags in order, with their marks
abbrev pub tags_of : List (Place × Bool) → List MarkedTag
tags_of list = map (λ entry. (tag_at entry.0, entry.1)) list

-- the instances in order
abbrev pub insts_of : List (Place × ⊤) → List Inst
insts_of list = map (λ entry. inst_at entry.0) list
