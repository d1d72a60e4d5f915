-- The report of a store, a text that its graph and its facts alone determine.
use Rattle.std.specs.Prelude.{◌≡◌, ◌↔◌, ◌==◌, ℕ, ℤ, true, false, List, [], ◌∷◌, ◌++◌, codes, get_or, Option, Some, None}
use Rattle.std.specs.Fmt.{decimal}
use Rattle.std.specs.Io.KnownBytes.{Appends}
use Rattle.std.specs.List.{flat_map, list_any}
use Rattle.std.specs.List.Sorted.{IsStrictlySortedBy}
use Rattle.std.specs.Ordering.{nat_cmp}
use Rattle.std.specs.Cmp.Lexicographic.{slice_cmp}
use Rattle.std.specs.declared.cmp.Ordering.{Ordering}
use Rattle.terms.specs.declared.name.Addr.{Addr}
use Rattle.terms.specs.declared.name.Inst.{Inst}
use Rattle.terms.specs.declared.name.ItemCollection.{ItemCollection}
use Rattle.terms.specs.declared.fault.FaultKind.{FaultKind}
use Rattle.terms.specs.Fault.{fault_number}
use Rattle.terms.specs.Facts.{bad}
use Rattle.terms.specs.Sets.{Facts}
use Rattle.graph.specs.Graph.{Graph}
use Rattle.machine.specs.Counts.{AreItemsOf, AreCountsOf}
use Rattle.machine.specs.declared.counts.Counts.{Counts}
use Rattle.commit.specs.Core.{Core, facts, graph}
use Rattle.report.specs.Named.{instance_text, item_text, name_of}

-- a line
abbrev pub line : List ℕ → List ℕ
line text = text ++ codes "\n"

-- one text of which this holds, about what a core has, is written after what was there
abbrev pub WritesOf : {D : Type 0} → Core D → (Graph → Facts → List ℕ → Type 0) → Option (List ℕ) → Option (List ℕ) → Type 0
WritesOf c Is before after = (text : List ℕ) × Is (graph c) (facts c) text × Appends before after text

-- ---- items

-- two collections by their names, in the order of the bytes
abbrev pub name_cmp : Graph → ItemCollection → ItemCollection → Ordering
name_cmp g one two = slice_cmp nat_cmp (name_of g one) (name_of g two)

-- these are the collections of which the environment may get items, in the order of their names
pub record AreGot (g : Graph) (collections : List ItemCollection) : Type 0 where
  pub rises : IsStrictlySortedBy (name_cmp g) collections
  pub each : (collection : ItemCollection) → (list_any (λ other. collection.0 == other.0) collections ≡ true) ↔ (get_or g.environment_gets collection.0 false ≡ true)

-- the items of these collections, collection by collection, and in each in the order of the keys
abbrev pub AreItemsIn : Facts → List ItemCollection → List (Addr × ℤ) → Type 0
AreItemsIn X [] items = items ≡ []
AreItemsIn X (collection ∷ more) items = (first : List (Addr × ℤ)) × (rest : List (Addr × ℤ)) × AreItemsOf X collection first × AreItemsIn X more rest × (items ≡ first ++ rest)

-- a line for each of these items, spelled so
abbrev pub item_lines : (Addr → ℤ → List ℕ) → List (Addr × ℤ) → List ℕ
item_lines spelled items = flat_map (λ item. line (spelled item.0 item.1)) items

-- a line for each item of these collections is written after what was there, spelled so
abbrev pub AppendsItemsOf : Facts → List ItemCollection → (Addr → ℤ → List ℕ) → Option (List ℕ) → Option (List ℕ) → Type 0
AppendsItemsOf X collections spelled before after = (items : List (Addr × ℤ)) × AreItemsIn X collections items × Appends before after (item_lines spelled items)

-- ---- counts and faults

-- `N items, N tags, D of P steps done`
abbrev pub counts_text : Counts → List ℕ
counts_text counts = decimal counts.items ++ codes " items, " ++ decimal counts.tags ++ codes " tags, " ++ decimal counts.done ++ codes " of " ++ decimal counts.prescribed ++ codes " steps done"

-- `stopped by fault K at (s: k)`
abbrev pub stopped_text : Graph → Inst → FaultKind → List ℕ
stopped_text g instance kind = codes "stopped by fault " ++ decimal (fault_number kind) ++ codes " at " ++ instance_text g instance

-- this is the only fault among the facts, or `None` if there is none
abbrev pub IsOnlyFault : Facts → Option (Inst × FaultKind) → Type 0
IsOnlyFault X fault = (instance : Inst) (kind : FaultKind) → (X (bad instance kind) ≡ true) ↔ (fault ≡ Some (instance, kind))

-- the line of the fault, spelled so, if there is one
abbrev pub fault_line : (Inst → FaultKind → List ℕ) → Option (Inst × FaultKind) → List ℕ
fault_line spelled None = []
fault_line spelled (Some fault) = line (spelled fault.0 fault.1)

-- ---- the report

-- A line for each item that the environment may get, by the name of its collection and then by key; one with the counts of all that is there; and one
-- for the fault, if there is one. Each is spelled so.
pub record AreLines (of_item : Addr → ℤ → List ℕ) (of_counts : Counts → List ℕ) (of_fault : Inst → FaultKind → List ℕ) (g : Graph) (X : Facts) (text : List ℕ) : Type 0 where
  pub collections : List ItemCollection
  pub got : AreGot g collections
  pub items : List (Addr × ℤ)
  pub listed : AreItemsIn X collections items
  pub counts : Counts
  pub counted : AreCountsOf g X counts
  pub fault : Option (Inst × FaultKind)
  pub only : IsOnlyFault X fault
  pub whole : text ≡ item_lines of_item items ++ line (of_counts counts) ++ fault_line of_fault fault

-- the report as text, for people
abbrev pub IsReport : Graph → Facts → List ℕ → Type 0
IsReport g X text = AreLines (item_text g) counts_text (stopped_text g) g X text

-- a graph and a set of facts have at most one report
abbrev pub ReportsOnce : Type 0
ReportsOnce = (g : Graph) (X : Facts) (one other : List ℕ) → IsReport g X one → IsReport g X other → one ≡ other
