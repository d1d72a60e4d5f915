-- The items that the environment may get as a table: comma-separated values. A name has letters, digits and `_` alone, so no cell is quoted.
use Rattle.std.specs.Prelude.{◌≡◌, ◌≤◌, ◌-◌, ℕ, zero, suc, ℤ, true, List, [], ◌∷◌, ◌++◌, codes, length, map, max, option_map, slice_get, unwrap_or}
use Rattle.std.specs.Fmt.{decimal, signed_decimal}
use Rattle.std.specs.List.{AllByRecursion, flat_map}
use Rattle.terms.specs.declared.name.Addr.{Addr}
use Rattle.terms.specs.declared.name.ItemCollection.{ItemCollection}
use Rattle.terms.specs.Facts.{Fact}
use Rattle.terms.specs.Sets.{Facts}
use Rattle.graph.specs.Fits.{FactIsOf}
use Rattle.graph.specs.Graph.{Graph}
use Rattle.report.specs.Named.{name_of}
use Rattle.report.specs.ReportText.{AreGot, AreItemsIn, item_lines, line}

-- ---- columns

-- how many components the keys of a collection have, 0 if the graph has no such collection
abbrev pub components_of : Graph → ItemCollection → ℕ
components_of g collection = unwrap_or (option_map (λ declared. declared.components) (slice_get g.items collection.0)) 0

-- the greatest number of components that keys of these collections have, 0 if there is no collection
abbrev pub most_components : Graph → List ItemCollection → ℕ
most_components g [] = 0
most_components g (collection ∷ more) = max (components_of g collection) (most_components g more)

-- `,k1,k2,..`, a name for each of this number of key columns
abbrev pub column_names : ℕ → List ℕ
column_names zero = []
column_names (suc columns) = column_names columns ++ codes ",k" ++ decimal (suc columns)

-- `collection,k1,..,kN,value`
abbrev pub header : ℕ → List ℕ
header columns = codes "collection" ++ column_names columns ++ codes ",value"

-- ---- rows

-- each of these components after a comma
abbrev pub after_commas : List ℤ → List ℕ
after_commas components = flat_map (λ text. codes "," ++ text) (map signed_decimal components)

-- this number of commas, each before an empty cell
abbrev pub commas : ℕ → List ℕ
commas zero = []
commas (suc cells) = codes "," ++ commas cells

-- the cells of a key: its components, and then empty cells up to this number of columns
abbrev pub key_cells : ℕ → List ℤ → List ℕ
key_cells columns key = after_commas key ++ commas (columns - length key)

-- `c,k,..,v`
abbrev pub row_text : Graph → ℕ → Addr → ℤ → List ℕ
row_text g columns address value = name_of g address.collection ++ key_cells columns address.key ++ codes "," ++ signed_decimal value

-- ---- the table

-- The header, and a row for each item that the environment may get, by the name of its collection and then by key. There are as many key columns as the
-- longest keys of the collections of which the environment may get items have components, whether such items are there or not.
pub record IsTable (g : Graph) (X : Facts) (text : List ℕ) : Type 0 where
  pub collections : List ItemCollection
  pub got : AreGot g collections
  pub items : List (Addr × ℤ)
  pub listed : AreItemsIn X collections items
  pub whole : text ≡ line (header (most_components g collections)) ++ item_lines (row_text g (most_components g collections)) items

-- if each fact is of the graph, every key of a table has a column for each of its components
abbrev pub KeysHaveColumns : Type 0
KeysHaveColumns =
    (g : Graph) (X : Facts) (collections : List ItemCollection) (items : List (Addr × ℤ)) → ((fact : Fact) → X fact ≡ true → FactIsOf g fact) → AreItemsIn X collections items
    → AllByRecursion (λ item. length item.0.key ≤ most_components g collections) items
