-- The instances of one step, as its tags are walked through: what is left of the tags, and what is there by now.
use Rattle.std.proofs.Common.{◌≡◌, ◌∙◌, ap, sym, refl, subst, ℕ, ◌==◌, ℤ, T, Bool, true, false, cond, List, [], ◌∷◌, Option, Some, None, is_some, option_map, eq-eqb}
use mathlib.Core.Bool.{false≢true}
use Rattle.std.specs.Bool.{⊤}
use Rattle.std.specs.declared.cmp.Ordering.TheVariants.{Less}
use Rattle.std.specs.List.{AllByRecursion}
use Rattle.std.specs.Ordering.{is_eq, is_lt, eq_by_cmp, ordering_reverse, ordering_then}
use Rattle.std.specs.Cmp.{Equal-is, nat_cmp_total, unsigned_Decides}
use Rattle.std.specs.FinMap.{FinMap, empty, entries, entries_sorted, find, get, get-empty, get-entries, get-insert, insert, is_sorted}
use Rattle.std.specs.FinMap.Entries.{below_all, find-where_key, is_sorted-where_key}
use Rattle.std.proofs.lemmas.Cmp.{tied_itself}
use Rattle.terms.specs.Key.{key_cmp}
use Rattle.maps.specs.Numbered.{Place, place_cmp, of_number}
use Rattle.maps.specs.PlaceOrder.{keys_total, same_key, same_places}
use Rattle.instances.specs.declared.state.State.{State}
use Rattle.instances.specs.declared.state.State.TheVariants.{Ready, Done}
use Rattle.instances.specs.Ended.{IsPassed}
use Rattle.instances.specs.Known.{instance_at}
use Rattle.instances.specs.OfStep.{OfStep, AddsInstance}
use Rattle.instances.specs.Restored.{begins}
use Rattle.instances.specs.RestoredSteps.{HasRestored}
use Rattle.instances.proofs.Below.{first, second, less, none_below}

-- ---- the entries of one collection among all

-- in a collection the key decides
by_key : (number : ℕ) (a b : List ℤ) → place_cmp (number, a) (number, b) ≡ key_cmp a b
by_key number a b = ap (λ r. ordering_then r (key_cmp a b)) (tied_itself nat_cmp_total number)

module _ {X : Type 0} (number : ℕ) (map : FinMap place_cmp X) where
  abbrev its : List (Place × X)
  its = of_number number (entries map)

  pub its_rise : T (is_sorted place_cmp its)
  its_rise = is_sorted-where_key place_cmp (λ (q : Place). q.0 == number) (entries map) (entries_sorted map)

  pub its_found : (key : List ℤ) → find place_cmp (number, key) its ≡ get map (number, key)
  its_found key =
      find-where_key place_cmp (λ (q : Place). q.0 == number) (number, key) (λ q tie. ap (λ (p : Place). p.0 == number) (sym (same_places (number, key) q tie))) (entries map)
      ∙ ap (λ b. cond b (find place_cmp (number, key) (entries map)) None) (eq-eqb number number refl) ∙ sym (get-entries map (number, key))

  all_its : (es : List (Place × X)) → AllByRecursion (λ e. e.0.0 ≡ number) (of_number number es)
  all_its [] = tt
  all_its (e ∷ es) = by_test (all_its es) (e.0.0 == number) refl
    where
      by_test : AllByRecursion (λ e. e.0.0 ≡ number) (of_number number es) → (t : Bool) → (e.0.0 == number) ≡ t → AllByRecursion (λ e. e.0.0 ≡ number) (cond t (e ∷ of_number number es) (of_number number es))
      by_test rest true same = ((unsigned_Decides e.0.0 number).0 same, rest)
      by_test rest false other = rest

-- a place that is found among those that come after another comes after it
comes_after : {X : Type 0} (p q : Place) (es : List (Place × X)) → T (below_all place_cmp p es) → is_some (find place_cmp q es) ≡ true → place_cmp p q ≡ Less
comes_after p q [] below found = absurd (false≢true found)
comes_after p q (e ∷ es) below found = by_test (comes_after p q es (second (is_lt (place_cmp p e.0)) _ below)) (eq_by_cmp place_cmp q e.0) refl
  where
    by_test : (is_some (find place_cmp q es) ≡ true → place_cmp p q ≡ Less) → (t : Bool) → eq_by_cmp place_cmp q e.0 ≡ t → place_cmp p q ≡ Less
    by_test rest true tie = ap (place_cmp p) (same_places q e.0 ((Equal-is (place_cmp q e.0)).0 tie)) ∙ less (place_cmp p e.0) (first _ (below_all place_cmp p es) below)
    by_test rest false other = rest (sym (ap (λ t. is_some (cond t (Some e.1) (find place_cmp q es))) other) ∙ found)

-- ---- one step

module _ (tags : FinMap place_cmp Bool) (ended : FinMap place_cmp ⊤) (collection number : ℕ) where
  abbrev starts : List ℤ → State
  starts key = begins ended (instance_at number key)

  abbrev is_left : List (Place × Bool) → List ℤ → Bool
  is_left left key = is_some (find place_cmp (collection, key) left)

  -- these tags of the collection are left, and these ended instances; the instances of the other tags are there
  pub record Restores (left : List (Place × Bool)) (rest : List (Place × ⊤)) (states : FinMap key_cmp State) : Type 0 where
    pub rises : T (is_sorted place_cmp left)
    pub its : AllByRecursion (λ e. e.0.0 ≡ collection) left
    pub ended_rise : T (is_sorted place_cmp rest)
    pub ended_left : (key : List ℤ) → is_left left key ≡ true → find place_cmp (number, key) rest ≡ get ended (number, key)
    pub absent : (key : List ℤ) → is_left left key ≡ true → get states key ≡ None
    pub whole : (key : List ℤ) → option_map (λ _. starts key) (get tags (collection, key)) ≡ cond (is_left left key) (Some (starts key)) (get states key)

  -- at first all are left
  pub begun : Restores (of_number collection (entries tags)) (of_number number (entries ended)) empty
  begun = record {
    rises = its_rise collection tags;
    its = all_its collection tags (entries tags);
    ended_rise = its_rise number ended;
    ended_left = λ key _. its_found number ended key;
    absent = λ key _. get-empty key_cmp key;
    whole = λ key. at key (get tags (collection, key)) ∙ sym (λ i. cond (is_some (its_found collection tags key i)) (Some (starts key)) (get-empty {X = State} key_cmp key i));
  }
    where
      at : (key : List ℤ) (o : Option Bool) → option_map (λ _. starts key) o ≡ cond (is_some o) (Some (starts key)) None
      at key None = refl
      at key (Some mark) = refl

  -- at last none is
  pub all_restored : (rest : List (Place × ⊤)) (states : FinMap key_cmp State) → Restores [] rest states → HasRestored tags ended collection number states
  all_restored rest states restores key = sym (restores.whole key)

  -- the next tag, whose instance is added
  module _ (entry : Place × Bool) (left : List (Place × Bool)) (rest : List (Place × ⊤)) (states : FinMap key_cmp State) (was : Restores (entry ∷ left) rest states) where
    abbrev key : List ℤ
    key = entry.0.1

    its_place : entry.0 ≡ (collection, key)
    its_place = λ i. (was.its.0 i, key)

    -- it is the first of those that are left, and is not left after it
    at_once : is_left (entry ∷ left) key ≡ true
    at_once = ap (λ p. is_some (cond (eq_by_cmp place_cmp (collection, key) p) (Some entry.1) (find place_cmp (collection, key) left))) its_place
        ∙ ap (λ r. is_some (cond (is_eq r) (Some entry.1) (find place_cmp (collection, key) left))) (by_key collection key key ∙ tied_itself keys_total key)

    pub is_absent : get states key ≡ None
    is_absent = was.absent key at_once

    others_after : T (below_all place_cmp (collection, key) left)
    others_after = subst (λ p. T (below_all place_cmp p left)) its_place (first _ (is_sorted place_cmp left) was.rises)

    not_left : is_left left key ≡ false
    not_left = ap is_some (none_below place_cmp (collection, key) left others_after)

    -- a tag that is left after it was left before, and comes after it
    abbrev tie : List ℤ → Bool
    tie q = eq_by_cmp key_cmp q key

    left_before : (q : List ℤ) → is_left (entry ∷ left) q ≡ is_some (cond (tie q) (Some entry.1) (find place_cmp (collection, q) left))
    left_before q =
        ap (λ p. is_some (cond (eq_by_cmp place_cmp (collection, q) p) (Some entry.1) (find place_cmp (collection, q) left))) its_place
        ∙ ap (λ r. is_some (cond (is_eq r) (Some entry.1) (find place_cmp (collection, q) left))) (by_key collection q key)

    comes_later : (q : List ℤ) → is_left left q ≡ true → key_cmp key q ≡ Less
    comes_later q is = sym (by_key collection key q) ∙ comes_after (collection, key) (collection, q) left others_after is

    another : (q : List ℤ) → is_left left q ≡ true → tie q ≡ false
    another q is = ap is_eq (keys_total.antisymm q key ∙ ap ordering_reverse (comes_later q is))

    was_left : (q : List ℤ) → is_left left q ≡ true → is_left (entry ∷ left) q ≡ true
    was_left q is = left_before q ∙ ap (λ t. is_some (cond t (Some entry.1) (find place_cmp (collection, q) left))) (another q is) ∙ is

    module _ (later : List (Place × ⊤)) (old new : OfStep) (is_done : Bool) (same : old.states ≡ states) (asked : is_done ≡ is_some (find place_cmp (number, key) rest)) (adds : AddsInstance old new key (cond is_done Done Ready)) where
      its_state : cond is_done Done Ready ≡ starts key
      its_state = ap (λ b. cond b Done Ready) (asked ∙ ap is_some (was.ended_left key at_once))

      states_now : (q : List ℤ) → get new.states q ≡ cond (tie q) (Some (starts key)) (get states q)
      states_now q =
          ap (λ now. get now q) (adds.states ∙ ap (λ before. insert before key (cond is_done Done Ready)) same) ∙ get-insert keys_total states key (cond is_done Done Ready) q
          ∙ ap (λ s. cond (tie q) (Some s) (get states q)) its_state

      pub goes_on : IsPassed rest later (number, key) → Restores left later new.states
      goes_on passed = record {
        rises = second (below_all place_cmp entry.0 left) _ was.rises;
        its = was.its.1;
        ended_rise = passed.rises;
        ended_left = λ q is. passed.later (number, q) (by_key number key q ∙ comes_later q is) ∙ was.ended_left q (was_left q is);
        absent = λ q is. states_now q ∙ ap (λ t. cond t (Some (starts key)) (get states q)) (another q is) ∙ was.absent q (was_left q is);
        whole = λ q. was.whole q ∙ ap (λ t. cond t (Some (starts q)) (get states q)) (left_before q) ∙ by_test q (tie q) refl ∙ ap (cond (is_left left q) (Some (starts q))) (sym (states_now q));
      }
        where
          by_test :
              (q : List ℤ) (t : Bool) → tie q ≡ t →
              cond (is_some (cond t (Some entry.1) (find place_cmp (collection, q) left))) (Some (starts q)) (get states q) ≡ cond (is_left left q) (Some (starts q)) (cond t (Some (starts key)) (get states q))
          by_test q true tied =
              let it = same_key q key ((Equal-is (key_cmp q key)).0 tied) in
              ap (λ k. Some (starts k)) it ∙ sym (ap (λ t. cond t (Some (starts q)) (Some (starts key))) (ap (is_left left) it ∙ not_left))
          by_test q false other = refl
