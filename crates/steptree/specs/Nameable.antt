-- What a step may name.
use Rattle.std.specs.Prelude.{ℕ, Bool, List}

-- a collection of items or of tags: its name, and the number of components of its keys
pub record Collection : Type 0 where
  pub name : List ℕ
  pub components : ℕ

-- the collections of a step's graph by number, and by the same numbers whether the step may read them and whether it may put into them
pub record Nameable : Type 0 where
  pub items : List Collection
  pub tags : List Collection
  pub reads : List Bool
  pub item_puts : List Bool
  pub tag_puts : List Bool
