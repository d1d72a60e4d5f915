-- Lists that have the same at each place before a position, or at each place from it on.
use Rattle.std.proofs.Common.{◌≡◌, ◌⊎◌, inl, inr, ℕ, ◌+◌, ◌-◌, ◌≤◌, ◌<◌, List, length, take, drop, sym, ap, ◌∙◌, arith, length-take}
use Rattle.std.specs.Prelude.{slice_get}
use Rattle.std.proofs.lemmas.Bool.{cases_lt}
use Rattle.disk.specs.Settled.{same_places}
use Rattle.disk.proofs.Places.{slice_get-take, slice_get-take_past, slice_get-drop}

module _ (xs ys : List ℕ) (n : ℕ) where
  pub front_from_places : ((i : ℕ) → i < n → slice_get xs i ≡ slice_get ys i) → take n xs ≡ take n ys
  front_from_places same = same_places (take n xs) (take n ys) (λ i. at i (cases_lt i n))
    where
      at : (i : ℕ) → (i < n) ⊎ (n ≤ i) → slice_get (take n xs) i ≡ slice_get (take n ys) i
      at i (inl lt) = slice_get-take xs n i lt ∙ same i lt ∙ sym (slice_get-take ys n i lt)
      at i (inr le) = slice_get-take_past xs n i le ∙ sym (slice_get-take_past ys n i le)

  pub places_from_front : take n xs ≡ take n ys → (i : ℕ) → i < n → slice_get xs i ≡ slice_get ys i
  places_from_front same i lt = sym (slice_get-take xs n i lt) ∙ ap (λ (l : List ℕ). slice_get l i) same ∙ slice_get-take ys n i lt

  pub back_from_places : ((i : ℕ) → n ≤ i → slice_get xs i ≡ slice_get ys i) → drop n xs ≡ drop n ys
  back_from_places same = same_places (drop n xs) (drop n ys) (λ i. moved xs i ∙ same (i + n) (omega arith) ∙ sym (moved ys i))
    where
      moved : (l : List ℕ) (i : ℕ) → slice_get (drop n l) i ≡ slice_get l (i + n)
      moved l i = let back : i ≡ (i + n) - n = omega arith in ap (slice_get (drop n l)) back ∙ slice_get-drop l n (i + n) (omega arith)

  pub places_from_back : drop n xs ≡ drop n ys → (i : ℕ) → n ≤ i → slice_get xs i ≡ slice_get ys i
  places_from_back same i le = sym (slice_get-drop xs n i le) ∙ ap (λ (l : List ℕ). slice_get l (i - n)) same ∙ slice_get-drop ys n i le

  -- a list with the same front as a list that reaches a position reaches it too
  pub reaches_from_front : take n xs ≡ take n ys → n ≤ length ys → n ≤ length xs
  reaches_from_front same le = omega (arith, ap length same, length-take n xs, length-take n ys)
