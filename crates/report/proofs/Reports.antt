-- Whole texts, from the parts that were written one after another.
use Rattle.std.proofs.Common.{◌≡◌, ℕ, ℤ, Option, List, [], ◌∷◌, ◌++◌, max, ap, refl, arith}
use Rattle.std.proofs.KnownBytes.{Appends-trans}
use Rattle.std.proofs.lemmas.Bool.Decides.{nat_tests}
use Rattle.std.specs.Io.KnownBytes.{Appends}
use Rattle.std.specs.Ordering.{nat_cmp, ord_max}
use Rattle.terms.specs.declared.name.Addr.{Addr}
use Rattle.terms.specs.declared.name.Inst.{Inst}
use Rattle.terms.specs.declared.name.ItemCollection.{ItemCollection}
use Rattle.terms.specs.declared.fault.FaultKind.{FaultKind}
use Rattle.terms.specs.Sets.{Facts}
use Rattle.graph.specs.Graph.{Graph}
use Rattle.machine.specs.Counts.{AreCountsOf}
use Rattle.machine.specs.declared.counts.Counts.{Counts}
use Rattle.report.specs.ReportText.{AreGot, AreItemsIn, AreLines, IsOnlyFault, fault_line, item_lines, line}
use Rattle.report.specs.TableText.{IsTable, components_of, header, most_components, row_text}

-- the lines of the items, of the counts and of the fault
pub are_lines : (of_item : Addr → ℤ → List ℕ) (of_counts : Counts → List ℕ) (of_fault : Inst → FaultKind → List ℕ) (g : Graph) (X : Facts) (collections : List ItemCollection) (counts : Counts)
    (fault : Option (Inst × FaultKind)) (start items_in counts_in end : Option (List ℕ)) → AreGot g collections
    → ((items : List (Addr × ℤ)) × AreItemsIn X collections items × Appends start items_in (item_lines of_item items)) → AreCountsOf g X counts → Appends items_in counts_in (line (of_counts counts))
    → IsOnlyFault X fault → Appends counts_in end (fault_line of_fault fault) → (text : List ℕ) × AreLines of_item of_counts of_fault g X text × Appends start end text
are_lines of_item of_counts of_fault g X collections counts fault start items_in counts_in end got wrote counted then_counts only then_fault =
    let lines = item_lines of_item wrote.0 in
    let count = line (of_counts counts) in
    let stop = fault_line of_fault fault in (
      lines ++ count ++ stop,
      record { collections = collections; got = got; items = wrote.0; listed = wrote.1; counts = counts; counted = counted; fault = fault; only = only; whole = refl },
      Appends-trans start counts_in end (lines ++ count) stop (Appends-trans start items_in counts_in lines count wrote.2 then_counts) then_fault,
    )

-- the header and the rows
pub is_table : (g : Graph) (X : Facts) (collections : List ItemCollection) (columns : ℕ) (start header_in end : Option (List ℕ)) → AreGot g collections → columns ≡ most_components g collections
    → Appends start header_in (line (header columns)) → ((items : List (Addr × ℤ)) × AreItemsIn X collections items × Appends header_in end (item_lines (row_text g columns) items))
    → (text : List ℕ) × IsTable g X text × Appends start end text
is_table g X collections columns start header_in end got is first wrote =
    let rows = item_lines (row_text g columns) wrote.0 in (
      line (header columns) ++ rows,
      record { collections = collections; got = got; items = wrote.0; listed = wrote.1; whole = ap (λ (n : ℕ). line (header n) ++ item_lines (row_text g n) wrote.0) is },
      Appends-trans start header_in end (line (header columns)) rows first wrote.2,
    )

pub greater : (one two : ℕ) → ord_max nat_cmp one two ≡ max one two
greater one two = grind (arith, nat_tests)

-- one more collection may have more components
pub most_more : (g : Graph) (collections : List ItemCollection) (collection : ItemCollection) → most_components g (collections ++ collection ∷ []) ≡ max (most_components g collections) (components_of g collection)
most_more g [] collection = omega arith
most_more g (first ∷ more) collection = let rest = most_more g more collection in omega arith
