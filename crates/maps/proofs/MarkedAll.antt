-- The marks of several maps, by place.
use Rattle.std.proofs.Common.{◌≡◌, ◌⊎◌, inl, inr, ◌∙◌, ap, sym, refl, subst, ℕ, zero, suc, ◌<◌, ◌≤◌, ℤ, Bool, true, false, List, [], ◌∷◌, map, set, length, get_or, slice_get, Option, Some, None, IfSome, IsSomeAnd, arith}
use Rattle.std.specs.Option.{option_map}
use Rattle.std.specs.FinMap.{empty, get}
use Rattle.std.proofs.lemmas.Bool.{cases_lt}
use Rattle.std.proofs.lemmas.List.{get_or-map, get_or_default, length-map, map-set}
use Rattle.maps.specs.Keyed.{Keyed, none}
use Rattle.maps.specs.Marked.{AreAllMarked, AreUnmarked, AreUnmarkedLists, IsLeft, Marked, MarkedPlaces, in_map, marked_places, marked_there, with_mark, without_room}
use Rattle.maps.specs.Numbered.{Place}
use Rattle.maps.proofs.ByNumber.{added_at, held, item_held, item_of, kept_at, read_at}
use Rattle.maps.proofs.Whole.{no_collection}

module _ {X : Type 0} where
  -- ---- one place

  as_in : (maps : List (Marked X)) (n : ℕ) (key : List ℤ) → item_of (slice_get (map without_room maps) n) key ≡ in_map (slice_get maps n) key
  as_in [] n key = refl
  as_in (m ∷ maps) zero key = refl
  as_in (m ∷ maps) (suc n) key = as_in maps n key

  pub get_each : (maps : List (Marked X)) (place : Place) → get (marked_places maps) place ≡ in_map (slice_get maps place.0) place.1
  get_each maps place = item_held (map without_room maps) place ∙ as_in maps place.0 place.1

  pub get_at : (maps : List (Marked X)) (n : ℕ) (key : List ℤ) (m : Marked X) → slice_get maps n ≡ Some m → get (marked_places maps) (n, key) ≡ get m key
  get_at maps n key m is = get_each maps (n, key) ∙ ap (λ o. in_map o key) is

  no_map : (maps : List (Marked X)) (n : ℕ) → length maps ≤ n → slice_get maps n ≡ None
  no_map [] n past = refl
  no_map (m ∷ maps) zero past = absurd (omega (arith, past))
  no_map (m ∷ maps) (suc n) past = no_map maps n (omega (arith, past))

  pub get_past : (maps : List (Marked X)) (n : ℕ) (key : List ℤ) → length maps ≤ n → get (marked_places maps) (n, key) ≡ None
  get_past maps n key past = get_each maps (n, key) ∙ ap (λ o. in_map o key) (no_map maps n past)

  pub read_marks : (maps : List (Marked X)) (n : ℕ) (m : Marked X) → n < length maps → m ≡ get_or maps n m → slice_get maps n ≡ Some m
  read_marks [] n m within is = absurd (omega (arith, within))
  read_marks (first ∷ maps) zero m within is = ap Some (sym is)
  read_marks (first ∷ maps) (suc n) m within is = read_marks maps n m (omega (arith, within)) is

  -- ---- one more mark

  module _ (maps : List (Marked X)) (n : ℕ) (old new : Marked X) (within : n < length maps) (is : old ≡ get_or maps n old) (key : List ℤ) where
    as_many : n < length (map without_room maps)
    as_many = omega (arith, within, length-map maps without_room)

    read : without_room old ≡ get_or (map without_room maps) n (without_room old)
    read = ap without_room is ∙ sym (get_or-map without_room maps n old (without_room old) within)

    there : (o : Option (X × Bool)) → new ≡ marked_there old key o → marked_places (set maps n new) ≡ marked_there (marked_places maps) (n, key) o
    there None same = ap held (map-set without_room maps n new) ∙ kept_at (map without_room maps) n (without_room old) (without_room new) as_many read same
    there (Some entry) one = ap held (map-set without_room maps n new) ∙ added_at (map without_room maps) n (without_room old) (without_room new) as_many read key (entry.0, true) one

    pub marked_at : new ≡ with_mark old key → marked_places (set maps n new) ≡ with_mark (marked_places maps) (n, key)
    marked_at marked = there (get old key) marked ∙ ap (marked_there (marked_places maps) (n, key)) (sym (get_at maps n key old (read_marks maps n old within is)))

  pub left_at : (maps : List (Marked X)) (n : ℕ) (key : List ℤ) (m : Marked X) → slice_get maps n ≡ Some m → IsLeft m key → IsLeft (marked_places maps) (n, key)
  left_at maps n key m is left = subst (λ (o : Option (X × Bool)). IsSomeAnd o (λ entry. entry.1 ≡ false)) (sym (get_at maps n key m is)) left

  -- ---- all of them

  pub all_of_each : (maps : List (Marked X)) → ((n : ℕ) → n < length maps → AreAllMarked (get_or maps n empty)) → AreAllMarked (marked_places maps)
  all_of_each maps each place = at (cases_lt place.0 (length maps))
    where
      at : (place.0 < length maps) ⊎ (length maps ≤ place.0) → IfSome (get (marked_places maps) place) (λ entry. entry.1 ≡ true)
      at (inl low) =
          subst (λ (o : Option (X × Bool)). IfSome o (λ entry. entry.1 ≡ true))
          (sym (get_at maps place.0 place.1 (get_or maps place.0 empty) (read_marks maps place.0 (get_or maps place.0 empty) low (get_or_default maps place.0 empty (get_or maps place.0 empty) low)))) (each place.0 low place.1)
      at (inr past) = subst (λ (o : Option (X × Bool)). IfSome o (λ entry. entry.1 ≡ true)) (sym (get_past maps place.0 place.1 past)) tt

  pub none_of_each : (collections : List (Keyed X)) (maps : List (Marked X)) (all : MarkedPlaces X) → ((place : Place) → get all place ≡ in_map (slice_get maps place.0) place.1) → AreUnmarkedLists collections maps → AreUnmarked (held collections) all
  none_of_each collections maps all is are place = is place ∙ at (cases_lt place.0 (length maps))
    where
      at : (place.0 < length maps) ⊎ (length maps ≤ place.0) → in_map (slice_get maps place.0) place.1 ≡ option_map (λ value. (value, false)) (get (held collections) place)
      at (inl low) =
          let here : place.0 < length collections = omega (arith, low, are.many) in
          ap (λ o. in_map o place.1) (read_marks maps place.0 (get_or maps place.0 empty) low (get_or_default maps place.0 empty (get_or maps place.0 empty) low))
          ∙ are.each place.0 low place.1
          ∙ sym (ap (λ (o : Option X). option_map (λ value. (value, false)) o)
          (item_held collections place ∙ ap (λ o. item_of o place.1) (read_at collections place.0 (get_or collections place.0 none) here (get_or_default collections place.0 none (get_or collections place.0 none) here))))
      at (inr past) =
          ap (λ o. in_map o place.1) (no_map maps place.0 past)
          ∙ sym (ap (λ (o : Option X). option_map (λ value. (value, false)) o) (item_held collections place ∙ ap (λ o. item_of o place.1) (no_collection collections place.0 (omega (arith, past, are.many)))))
