-- What a store reports about its items in order, and about how much it holds.
use Rattle.std.specs.Prelude.{◌≡◌, ◌↔◌, ◌-◌, ◌^◌, ℕ, ℤ, T, true, List, length, min, Some}
use Rattle.std.specs.List.{list_any}
use Rattle.std.specs.List.Sorted.{IsStrictlySortedBy}
use Rattle.std.specs.Ordering.{eq_by_cmp}
use Rattle.std.specs.declared.cmp.Ordering.{Ordering}
use Rattle.std.specs.FinMap.{find, is_sorted}
use Rattle.terms.specs.Name.{addr_cmp, tag_cmp, inst_cmp}
use Rattle.terms.specs.declared.name.Addr.{Addr}
use Rattle.terms.specs.declared.name.ItemCollection.{ItemCollection}
use Rattle.terms.specs.Facts.{tag, done}
use Rattle.terms.specs.Sets.{Facts}
use Rattle.graph.specs.Graph.{Graph}
use Rattle.graph.specs.Fits.{IsPrescribed}
use Rattle.machine.specs.Meaning.{items}
use Rattle.machine.specs.declared.counts.Counts.{Counts}

-- the items of one collection, each address with its value, in the order of their addresses
pub record AreItemsOf (X : Facts) (collection : ItemCollection) (list : List (Addr × ℤ)) : Type 0 where
  pub rises : T (is_sorted addr_cmp list)
  pub each : (address : Addr) (value : ℤ) → (find addr_cmp address list ≡ Some value) ↔ ((address.collection ≡ collection) × items X address value)

-- The number of names that pass: the length of a list that has each of them, each once. It is given up to the greatest 64-bit number.
pub record AreSoMany {N : Type 0} (cmp : N → N → Ordering) (Passes : N → Type 0) (count : ℕ) : Type 0 where
  pub list : List N
  pub rises : IsStrictlySortedBy cmp list
  pub each : (name : N) → (list_any (eq_by_cmp cmp name) list ≡ true) ↔ Passes name
  pub told : count ≡ min (length list) (2 ^ 64 - 1)

-- the numbers of addresses with an item, of tags, of prescribed instances and of done instances
pub record AreCountsOf (g : Graph) (X : Facts) (counts : Counts) : Type 0 where
  pub items : AreSoMany addr_cmp (λ address. (value : ℤ) × items X address value) counts.items
  pub tags : AreSoMany tag_cmp (λ name. X (tag name) ≡ true) counts.tags
  pub prescribed : AreSoMany inst_cmp (IsPrescribed g X) counts.prescribed
  pub done : AreSoMany inst_cmp (λ instance. X (done instance) ≡ true) counts.done
