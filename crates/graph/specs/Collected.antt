-- Collections: as they are declared, and by their numbers.
use Rattle.std.specs.Prelude.{◌≡◌, ℕ, List, map}
use Rattle.steptree.specs.declared.step.Name.{Name}
use Rattle.steptree.specs.Names.{Text}
use Rattle.steptree.specs.Nameable.{Collection}
use Rattle.graph.specs.declared.fault.GraphError.TheVariants.{Redeclared}
use Rattle.graph.specs.declared.declarations.Collections.{Collections}
use Rattle.graph.specs.Faults.{At, fault_if, has}
use Rattle.graph.specs.Seen.{collection_seen}
use Rattle.graph.specs.Tree.{text_of}

-- the fault of a name that appeared before
abbrev pub again : List Text → Name → List At
again names name = fault_if (has names name) Redeclared name.place

abbrev pub of_name : Name → ℕ → Collection
of_name name components = record { name = text_of name; components = components }

abbrev pub collections_numbered : List (Text × ℕ) → List Collection
collections_numbered numbered = map collection_seen numbered

-- the collections by their numbers, with their names
abbrev pub collections_of : Collections → List Collection
collections_of them = collections_numbered them.numbered

-- these are the collections, as they are declared and by their numbers
pub record AreCollected (collections : List Collection) (them : Collections) : Type 0 where
  pub declared : them.declared.items ≡ collections
  pub numbered : collections_of them ≡ collections
