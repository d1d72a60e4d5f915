-- The entries of one collection among the entries of all, and the number of all entries.
use Rattle.std.proofs.Common.{◌≡◌, ◌≢◌, ◌∙◌, ap, sym, refl, ℕ, zero, suc, ◌+◌, ◌<◌, ◌==◌, Bool, cond, List, [], ◌∷◌, ◌++◌, map, length, sum_by, slice_get, Option, Some, None, arith, eq-eqb, ne_eqb, append-nil, length-append}
use Rattle.std.specs.FinMap.{entries}
use Rattle.std.proofs.lemmas.List.Elements.{filter-append}
use Rattle.std.proofs.lemmas.List.{length-map}
use Rattle.std.proofs.lemmas.List.Sums.{sum_by-append}
use Rattle.maps.specs.Keyed.{Keyed}
use Rattle.maps.specs.Numbered.{Numbered, Place, placed, all_from, of_number}
use Rattle.maps.specs.Paged.{Entry}
use Rattle.maps.proofs.Whole.{seen_numbered, walked}

-- the entries that a collection has, if there is such a collection
abbrev pub listed_in : {X : Type 0} → ℕ → Option (Keyed X) → List (Place × X)
listed_in number None = []
listed_in number (Some m) = map (placed number) (entries m.items)

module _ {X : Type 0} (number : ℕ) where
  abbrev has_it : Place × X → Bool
  has_it entry = entry.0.0 == number

  all_its : (start : ℕ) → start ≡ number → (es : List (Entry X)) → of_number number (map (placed start) es) ≡ map (placed number) es
  all_its start same [] = refl
  all_its start same (e ∷ es) =
      ap (λ b. cond b (placed start e ∷ of_number number (map (placed start) es)) (of_number number (map (placed start) es))) (eq-eqb start number same)
      ∙ (λ i. placed (same i) e ∷ all_its start same es i)

  none_its : (start : ℕ) → start ≢ number → (es : List (Entry X)) → of_number number (map (placed start) es) ≡ []
  none_its start differs [] = refl
  none_its start differs (e ∷ es) =
      ap (λ b. cond b (placed start e ∷ of_number number (map (placed start) es)) (of_number number (map (placed start) es))) (ne_eqb start number differs)
      ∙ none_its start differs es

  none_later : (start : ℕ) (maps : List (Keyed X)) → number < start → of_number number (all_from start maps) ≡ []
  none_later start [] lower = refl
  none_later start (m ∷ maps) lower =
      filter-append has_it (map (placed start) (entries m.items)) (all_from (suc start) maps)
      ∙ ap (λ es. es ++ of_number number (all_from (suc start) maps)) (none_its start (λ same. omega (arith, same, lower)) (entries m.items))
      ∙ none_later (suc start) maps (omega (arith, lower))

  at : (start n : ℕ) (maps : List (Keyed X)) → number ≡ start + n → of_number number (all_from start maps) ≡ listed_in number (slice_get maps n)
  at start n [] is = refl
  at start zero (m ∷ maps) is =
      filter-append has_it (map (placed start) (entries m.items)) (all_from (suc start) maps)
      ∙ (λ i. all_its start (omega (arith, is)) (entries m.items) i ++ none_later (suc start) maps (omega (arith, is)) i) ∙ append-nil (map (placed number) (entries m.items))
  at start (suc n) (m ∷ maps) is =
      filter-append has_it (map (placed start) (entries m.items)) (all_from (suc start) maps)
      ∙ ap (λ es. es ++ of_number number (all_from (suc start) maps)) (none_its start (λ same. omega (arith, same, is)) (entries m.items))
      ∙ at (suc start) n maps (omega (arith, is))

  -- among all entries, those with the number of a collection are the entries that it has
  pub of_one : (maps : List (Keyed X)) (now : Numbered X) → seen_numbered maps ≡ now → of_number number (entries now.items) ≡ listed_in number (slice_get maps number)
  of_one maps now is = ap (of_number number) (sym (walked maps now is)) ∙ at 0 number maps (omega arith)

-- the number of all entries is the sum over the collections
abbrev pub its_length : {X : Type 0} → Keyed X → ℕ
its_length m = length (entries m.items)

lengths : {X : Type 0} (start : ℕ) (maps : List (Keyed X)) → length (all_from start maps) ≡ sum_by its_length maps
lengths start [] = refl
lengths start (m ∷ maps) =
    omega (arith, length-append (map (placed start) (entries m.items)) (all_from (suc start) maps), length-map (entries m.items) (placed start), lengths (suc start) maps, sum_by-append its_length (m ∷ []) maps)

pub as_many : {X : Type 0} (maps : List (Keyed X)) (now : Numbered X) → seen_numbered maps ≡ now → length (entries now.items) ≡ sum_by its_length maps
as_many maps now is = ap length (sym (walked maps now is)) ∙ lengths 0 maps
