-- What is at each key after an entry was marked.
use Rattle.std.specs.Prelude.{◌≡◌, Bool, true, false, cond, ◌||◌, Option, Some, None, refl}
use Rattle.std.specs.declared.cmp.Ordering.{Ordering}
use Rattle.std.specs.Option.{option_map}
use Rattle.std.specs.Ordering.{eq_by_cmp}
use Rattle.std.specs.Cmp.{IsTotalOrder, Equal-is}
use Rattle.std.specs.FinMap.{FinMap, get, get-insert, get_tied}
use Rattle.std.proofs.Common.{ap, sym, ◌∙◌}
use Rattle.maps.specs.Marked.{marked_there, with_mark}

-- the entry, which is marked if it was, or if this is so
abbrev pub also_marked : {X : Type 0} → Bool → X × Bool → X × Bool
also_marked so entry = (entry.0, so || entry.1)

module _ {X : Type 0} where
  not_so : (there : Option (X × Bool)) → option_map (also_marked false) there ≡ there
  not_so None = refl
  not_so (Some entry) = refl

  -- the entry at the marked key is marked, and all others are as they were
  pub get-with_mark : {K : Type 0} {R : K → K → Ordering} → IsTotalOrder R → (marks : FinMap R (X × Bool)) (key other : K) → get (with_mark marks key) other ≡ option_map (also_marked (eq_by_cmp R other key)) (get marks other)
  get-with_mark {K} {R} total marks key other = at (get marks key) refl (eq_by_cmp R other key) refl
    where
      tied : eq_by_cmp R other key ≡ true → get marks key ≡ get marks other
      tied same = get_tied total marks other key ((Equal-is (R other key)).0 same)

      at : (there : Option (X × Bool)) → get marks key ≡ there → (same : Bool) → eq_by_cmp R other key ≡ same → get (marked_there marks key (get marks key)) other ≡ option_map (also_marked same) (get marks other)
      at None is true same = ap (λ o. get (marked_there marks key o) other) is ∙ sym (tied same) ∙ is ∙ sym (ap (option_map (also_marked true)) (sym (tied same) ∙ is))
      at None is false same = ap (λ o. get (marked_there marks key o) other) is ∙ sym (not_so (get marks other))
      at (Some entry) is true same =
          ap (λ o. get (marked_there marks key o) other) is ∙ get-insert total marks key (entry.0, true) other ∙ ap (λ b. cond b (Some (entry.0, true)) (get marks other)) same ∙ sym (ap (option_map (also_marked true)) (sym (tied same) ∙ is))
      at (Some entry) is false same =
          ap (λ o. get (marked_there marks key o) other) is ∙ get-insert total marks key (entry.0, true) other ∙ ap (λ b. cond b (Some (entry.0, true)) (get marks other)) same ∙ sym (not_so (get marks other))
