-- Addresses, instances and tags by the names of their collections.
use Rattle.std.specs.Prelude.{ℕ, ℤ, List, [], ◌++◌, map, codes, get_or}
use Rattle.std.specs.Fmt.{signed_decimal}
use Rattle.std.specs.List.{flat_map}
use Rattle.terms.specs.declared.name.Addr.{Addr}
use Rattle.terms.specs.declared.name.Inst.{Inst}
use Rattle.terms.specs.declared.name.ItemCollection.{ItemCollection}
use Rattle.terms.specs.declared.name.StepCollection.{StepCollection}
use Rattle.terms.specs.declared.name.Tag.{Tag}
use Rattle.terms.specs.declared.name.TagCollection.{TagCollection}
use Rattle.graph.specs.Graph.{Graph}
use Rattle.steptree.specs.Names.{names_in}
use Rattle.graph.specs.Prescribed.{names_of_steps}
use Rattle.graph.specs.Canonical.{in_angles, in_brackets, in_rounds, with_colon}

-- the name of an item collection, of a tag collection, and of a step; empty if the graph has none of this number
abbrev pub name_of : Graph → ItemCollection → List ℕ
name_of g collection = get_or (names_in g.items) collection.0 []

abbrev pub tag_name_of : Graph → TagCollection → List ℕ
tag_name_of g collection = get_or (names_in g.tags) collection.0 []

abbrev pub step_name_of : Graph → StepCollection → List ℕ
step_name_of g collection = get_or (names_of_steps g.steps) collection.0 []

-- a name, and after a colon the components of a key; a name without components stands alone
abbrev pub with_key : List ℕ → List ℤ → List ℕ
with_key name key = with_colon name (map signed_decimal key)

-- these components, each after a comma and a space
abbrev pub more_components : List ℤ → List ℕ
more_components components = flat_map (λ text. codes ", " ++ text) (map signed_decimal components)

-- `[c: k, ..]`
abbrev pub address_text : Graph → Addr → List ℕ
address_text g address = in_brackets (with_key (name_of g address.collection) address.key)

-- `<t: k, ..>`
abbrev pub tag_text : Graph → Tag → List ℕ
tag_text g tag = in_angles (with_key (tag_name_of g tag.collection) tag.key)

-- `(s: k, ..)`
abbrev pub instance_text : Graph → Inst → List ℕ
instance_text g instance = in_rounds (with_key (step_name_of g instance.collection) instance.key)

-- `[c: k, ..] = v`
abbrev pub item_text : Graph → Addr → ℤ → List ℕ
item_text g address value = address_text g address ++ codes " = " ++ signed_decimal value
