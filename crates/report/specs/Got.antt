-- The collections of which the environment may get items, as the program lists them: each with its name.
use Rattle.std.specs.Prelude.{◌≡◌, ℕ, Bool, true, false, ◌==◌, List, [], get_or, take, Some, All}
use Rattle.std.specs.List.{sum_by}
use Rattle.std.specs.Borrow.{Bor}
use Rattle.terms.specs.declared.name.ItemCollection.{ItemCollection}
use Rattle.steptree.specs.Names.{Text, place_of, names_in}
use Rattle.graph.specs.Graph.{Graph}

-- A collection with its name. The name stands first, so that pairs in order are in the order of their names.
abbrev pub Named : Type 0
Named = Bor Text × ItemCollection

-- the collection has this name, and it is the one that the name leads to
pub record IsNamed (g : Graph) (one : Named) : Type 0 where
  pub name : get_or (names_in g.items) one.1.0 [] ≡ one.0.now
  pub once : place_of (names_in g.items) one.0.now ≡ Some one.1.0

abbrev pub how_many : Bool → ℕ
how_many true = 1
how_many false = 0

-- how often the collection with this number is in the list
abbrev pub times : ℕ → List Named → ℕ
times number list = sum_by (λ one. how_many (number == one.1.0)) list

-- each collection with a number below this, of which the environment may get items, is in the list once, with its name; no other collection is
pub record AreGotBelow (g : Graph) (below : ℕ) (list : List Named) : Type 0 where
  pub named : All (IsNamed g) list
  pub once : (number : ℕ) → times number list ≡ how_many (get_or (take below g.environment_gets) number false)
