-- A graph and a set of facts have at most one report, since they determine each part of a report.
use Rattle.std.proofs.Common.{◌≡◌, ◌↔◌, ◌==◌, ◌-◌, ◌^◌, ℕ, ℤ, true, Option, Some, None, List, [], ◌∷◌, ◌++◌, length, min, get_or, refl, sym, ap, subst, ◌∙◌, eq-eqb, eqb-true}
use Rattle.std.proofs.lemmas.Cmp.{nat_list_cmp_total, on_total, tied_itself}
use Rattle.std.specs.Cmp.{IsTotalOrder, Equal-is}
use Rattle.std.specs.FinMap.{IsAntisymmetric}
use Rattle.std.specs.FinMap.Entries.{same_entries}
use Rattle.std.specs.Ordering.{eq_by_cmp, is_eq}
use Rattle.std.specs.declared.cmp.Ordering.{Ordering}
use Rattle.terms.specs.Name.{addr_cmp, tag_cmp, inst_cmp}
use Rattle.terms.specs.Sets.{Facts}
use Rattle.terms.specs.declared.name.Addr.{Addr}
use Rattle.terms.specs.declared.name.Inst.{Inst}
use Rattle.terms.specs.declared.name.ItemCollection.{ItemCollection}
use Rattle.terms.specs.declared.fault.FaultKind.{FaultKind}
use Rattle.graph.specs.Graph.{Graph}
use Rattle.steptree.specs.Names.{names_in}
use Rattle.machine.specs.Counts.{AreCountsOf, AreItemsOf, AreSoMany}
use Rattle.machine.specs.declared.counts.Counts.{Counts}
use Rattle.report.specs.declared.format.Format.{Format}
use Rattle.report.specs.declared.format.Format.TheVariants.{Text, Csv, Json}
use Rattle.report.specs.Formats.{IsReportIn}
use Rattle.report.specs.Named.{item_text}
use Rattle.report.specs.ObjectLines.{counts_object, fault_object, item_object}
use Rattle.report.specs.ReportText.{AreGot, AreItemsIn, AreLines, IsOnlyFault, IsReport, counts_text, fault_line, item_lines, line, name_cmp, stopped_text}
use Rattle.report.specs.TableText.{IsTable, header, most_components, row_text}
use Rattle.report.proofs.SameMembers.{same_members}

-- ---- collections

same_collection : (one two : ItemCollection) → (one.0 == two.0) ≡ true → one ≡ two
same_collection one two same = let number = eqb-true one.0 two.0 same in λ i. record { 0 = number i }

got_once : (g : Graph) (one two : List ItemCollection) → AreGot g one → AreGot g two → one ≡ two
got_once g one two first second =
    same_members (name_cmp g) (on_total (λ (collection : ItemCollection). get_or (names_in g.items) collection.0 []) nat_list_cmp_total) (λ a b. a.0 == b.0)
    (λ a. eq-eqb a.0 a.0 refl) same_collection one two first.rises second.rises
    (λ collection. (λ has. (second.each collection).1 ((first.each collection).0 has), λ has. (first.each collection).1 ((second.each collection).0 has)))

-- ---- what there is at most one of

same_option : {A : Type 0} (one two : Option A) → ((a : A) → (one ≡ Some a) ↔ (two ≡ Some a)) → one ≡ two
same_option None None same = refl
same_option None (Some b) same = (same b).1 refl
same_option (Some a) two same = sym ((same a).0 refl)

fault_once : (X : Facts) (one two : Option (Inst × FaultKind)) → IsOnlyFault X one → IsOnlyFault X two → one ≡ two
fault_once X one two first second =
    same_option one two
    (λ fault. (λ is. (second fault.0 fault.1).0 ((first fault.0 fault.1).1 is), λ is. (first fault.0 fault.1).0 ((second fault.0 fault.1).1 is)))

many_once : {N : Type 0} (cmp : N → N → Ordering) → IsTotalOrder cmp → IsAntisymmetric cmp → (Passes : N → Type 0) (one two : ℕ) → AreSoMany cmp Passes one → AreSoMany cmp Passes two → one ≡ two
many_once {N} cmp total tie Passes one two first second =
    let list : first.list ≡ second.list =
    same_members cmp total (eq_by_cmp cmp) (λ n. ap is_eq (tied_itself total n)) (λ m n is. tie m n ((Equal-is (cmp m n)).0 is)) first.list second.list first.rises second.rises
    (λ n. (λ has. (second.each n).1 ((first.each n).0 has), λ has. (first.each n).1 ((second.each n).0 has))) in
    first.told ∙ ap (λ (names : List N). min (length names) (2 ^ 64 - 1)) list ∙ sym second.told

-- ---- the parts of a report

module _ (addresses : IsTotalOrder addr_cmp) (addresses_tie : IsAntisymmetric addr_cmp) (tags : IsTotalOrder tag_cmp) (tags_tie : IsAntisymmetric tag_cmp) (instances : IsTotalOrder inst_cmp)
    (instances_tie : IsAntisymmetric inst_cmp) where
  items_once : (X : Facts) (collection : ItemCollection) (one two : List (Addr × ℤ)) → AreItemsOf X collection one → AreItemsOf X collection two → one ≡ two
  items_once X collection one two first second =
      same_entries addr_cmp addresses addresses_tie one two first.rises second.rises
      (λ address.
      same_option _ _
      (λ value. (λ is. (second.each address value).1 ((first.each address value).0 is), λ is. (first.each address value).1 ((second.each address value).0 is))))

  items_in_once : (X : Facts) (collections : List ItemCollection) (one two : List (Addr × ℤ)) → AreItemsIn X collections one → AreItemsIn X collections two → one ≡ two
  items_in_once X [] one two first second = first ∙ sym second
  items_in_once X (collection ∷ more) one two first second =
      first.4 ∙ ap (λ (items : List (Addr × ℤ)). items ++ first.1) (items_once X collection first.0 second.0 first.2 second.2)
      ∙ ap (λ (rest : List (Addr × ℤ)). second.0 ++ rest) (items_in_once X more first.1 second.1 first.3 second.3) ∙ sym second.4

  -- the items that the environment may get
  got_items_once : (g : Graph) (X : Facts) (collections others : List ItemCollection) (one two : List (Addr × ℤ)) → AreGot g collections → AreGot g others → AreItemsIn X collections one → AreItemsIn X others two → one ≡ two
  got_items_once g X collections others one two got also first second =
      items_in_once X others one two (subst (λ (of : List ItemCollection). AreItemsIn X of one) (got_once g collections others got also) first) second

  counts_once : (g : Graph) (X : Facts) (one two : Counts) → AreCountsOf g X one → AreCountsOf g X two → one ≡ two
  counts_once g X one two first second =
      let items = many_once addr_cmp addresses addresses_tie _ one.items two.items first.items second.items in
      let names = many_once tag_cmp tags tags_tie _ one.tags two.tags first.tags second.tags in
      let prescribed = many_once inst_cmp instances instances_tie _ one.prescribed two.prescribed first.prescribed second.prescribed in
      let done = many_once inst_cmp instances instances_tie _ one.done two.done first.done second.done in
      λ i. record { items = items i; tags = names i; prescribed = prescribed i; done = done i }

  lines_once : (of_item : Addr → ℤ → List ℕ) (of_counts : Counts → List ℕ) (of_fault : Inst → FaultKind → List ℕ) (g : Graph) (X : Facts) (one two : List ℕ)
      → AreLines of_item of_counts of_fault g X one → AreLines of_item of_counts of_fault g X two → one ≡ two
  lines_once of_item of_counts of_fault g X one two first second =
      let items = got_items_once g X first.collections second.collections first.items second.items first.got second.got first.listed second.listed in
      let counts = counts_once g X first.counts second.counts first.counted second.counted in
      let fault = fault_once X first.fault second.fault first.only second.only in
      first.whole ∙ ap (λ (list : List (Addr × ℤ)). item_lines of_item list ++ line (of_counts first.counts) ++ fault_line of_fault first.fault) items
      ∙ ap (λ (told : Counts). item_lines of_item second.items ++ line (of_counts told) ++ fault_line of_fault first.fault) counts
      ∙ ap (λ (stopped : Option (Inst × FaultKind)). item_lines of_item second.items ++ line (of_counts second.counts) ++ fault_line of_fault stopped) fault ∙ sym second.whole

  table_once : (g : Graph) (X : Facts) (one two : List ℕ) → IsTable g X one → IsTable g X two → one ≡ two
  table_once g X one two first second =
      let collections = got_once g first.collections second.collections first.got second.got in
      let items = got_items_once g X first.collections second.collections first.items second.items first.got second.got first.listed second.listed in
      first.whole ∙ ap (λ (of : List ItemCollection). line (header (most_components g of)) ++ item_lines (row_text g (most_components g of)) first.items) collections
      ∙ ap (λ (list : List (Addr × ℤ)). line (header (most_components g second.collections)) ++ item_lines (row_text g (most_components g second.collections)) list) items ∙ sym second.whole

  pub one_report : (g : Graph) (X : Facts) (one two : List ℕ) → IsReport g X one → IsReport g X two → one ≡ two
  one_report g X one two first second = lines_once (item_text g) counts_text (stopped_text g) g X one two first second

  pub one_in_format : (format : Format) (g : Graph) (X : Facts) (one two : List ℕ) → IsReportIn format g X one → IsReportIn format g X two → one ≡ two
  one_in_format Text g X one two first second = one_report g X one two first second
  one_in_format Csv g X one two first second = table_once g X one two first second
  one_in_format Json g X one two first second = lines_once (item_object g) counts_object (fault_object g) g X one two first second
