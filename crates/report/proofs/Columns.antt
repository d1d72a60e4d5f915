-- How many components the keys of the items of collections have.
use Rattle.std.proofs.Common.{◌≡◌, ◌≤◌, ◌∙◌, ℕ, ℤ, Bool, true, false, cond, Option, Some, List, [], ◌∷◌, ◌++◌, length, max, sym, ap, subst, refl, arith}
use Rattle.std.specs.Cmp.{IsTotalOrder}
use Rattle.std.specs.FinMap.{find}
use Rattle.std.specs.List.{AllByRecursion}
use Rattle.std.specs.Option.{option_map, unwrap_or}
use Rattle.std.specs.Ordering.{eq_by_cmp, is_eq}
use Rattle.std.specs.declared.cmp.Ordering.{Ordering}
use Rattle.std.proofs.lemmas.Cmp.{tied_itself}
use Rattle.terms.specs.Facts.{Fact, item}
use Rattle.terms.specs.Name.{addr_cmp}
use Rattle.terms.specs.Sets.{Facts}
use Rattle.terms.specs.declared.name.Addr.{Addr}
use Rattle.terms.specs.declared.name.ItemCollection.{ItemCollection}
use Rattle.steptree.specs.Nameable.{Collection}
use Rattle.graph.specs.Fits.{FactIsOf}
use Rattle.graph.specs.Graph.{Graph}
use Rattle.machine.specs.Counts.{AreItemsOf}
use Rattle.report.specs.ReportText.{AreItemsIn}
use Rattle.report.specs.TableText.{components_of, most_components}

-- no key of the list has more components than this
abbrev AreShort : ℕ → List (Addr × ℤ) → Type 0
AreShort most list = AllByRecursion (λ entry. length entry.0.key ≤ most) list

shorter : (low high : ℕ) (list : List (Addr × ℤ)) → low ≤ high → AreShort low list → AreShort high list
shorter low high [] less short = tt
shorter low high (entry ∷ list) less short = let first = short.0 in (omega arith, shorter low high list less short.1)

joined : (most : ℕ) (one two : List (Addr × ℤ)) → AreShort most one → AreShort most two → AreShort most (one ++ two)
joined most [] two first second = second
joined most (entry ∷ one) two first second = (first.0, joined most one two first.1 second)

-- the key of each entry is found in the list
each : IsTotalOrder addr_cmp → (most : ℕ) (list : List (Addr × ℤ)) → ((address : Addr) (value : ℤ) → find addr_cmp address list ≡ Some value → length address.key ≤ most) → AreShort most list
each total most [] tells = tt
each total most (entry ∷ list) tells = (
  tells entry.0 entry.1 (ap (λ (order : Ordering). cond (is_eq order) (Some entry.1) (find addr_cmp entry.0 list)) (tied_itself total entry.0)),
  each total most list (λ address value found. by_test address value found (eq_by_cmp addr_cmp address entry.0) refl),
)
  where
    by_test : (address : Addr) (value : ℤ) → find addr_cmp address list ≡ Some value → (same : Bool) → eq_by_cmp addr_cmp address entry.0 ≡ same → length address.key ≤ most
    by_test address value found true is = tells address entry.1 (ap (λ (same : Bool). cond same (Some entry.1) (find addr_cmp address list)) is)
    by_test address value found false is = tells address value (ap (λ (same : Bool). cond same (Some entry.1) (find addr_cmp address list)) is ∙ found)

module _ (total : IsTotalOrder addr_cmp) (g : Graph) (X : Facts) (of_graph : (fact : Fact) → X fact ≡ true → FactIsOf g fact) where
  of_one : (collection : ItemCollection) (items : List (Addr × ℤ)) → AreItemsOf X collection items → AreShort (components_of g collection) items
  of_one collection items are = each total (components_of g collection) items (λ address value found.
      let there = (are.each address value).0 found in
      let declared = of_graph (item address value there.1.0) there.1.1 in
      let is : components_of g collection ≡ length address.key =
      ap (λ (of : ItemCollection). components_of g of) (sym there.0) ∙ ap (λ (o : Option Collection). unwrap_or (option_map (λ (collection : Collection). collection.components) o) 0) declared.1 ∙ declared.2 in
      omega arith)

  pub each_key : (collections : List ItemCollection) (items : List (Addr × ℤ)) → AreItemsIn X collections items → AreShort (most_components g collections) items
  each_key [] items none = subst (λ (list : List (Addr × ℤ)). AreShort 0 list) (sym none) tt
  each_key (collection ∷ more) items some =
      let here = components_of g collection in
      let most = max here (most_components g more) in
      subst (λ (list : List (Addr × ℤ)). AreShort most list) (sym some.4)
      (joined most some.0 some.1 (shorter here most some.0 (omega arith) (of_one collection some.0 some.2)) (shorter (most_components g more) most some.1 (omega arith) (each_key more some.1 some.3)))
