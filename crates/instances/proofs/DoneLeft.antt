-- Marks at instances: what is not marked is done.
use Rattle.std.proofs.Common.{◌≡◌, ◌⊎◌, inl, inr, ◌∙◌, ap, sym, refl, subst, ℕ, zero, suc, ◌<◌, ◌≤◌, Bool, true, false, List, [], ◌∷◌, ◌++◌, length, get_or, slice_get, Option, Some, None, IfSome, IsSomeAnd, arith}
use mathlib.Core.Bool.{false≢true}
use Rattle.std.specs.Option.{option_map}
use Rattle.std.specs.Ordering.{eq_by_cmp}
use Rattle.std.specs.FinMap.{empty, get}
use Rattle.std.proofs.lemmas.Bool.{cases_lt}
use Rattle.std.proofs.lemmas.List.{get_or_append_left, get_or_push, get_or_read, length_push}
use Rattle.terms.specs.declared.name.Inst.{Inst}
use Rattle.maps.specs.Marked.{AreAllMarked, IsLeft, Marked, MarkedPlaces, in_map, with_mark}
use Rattle.maps.specs.Numbered.{Place, place_cmp}
use Rattle.maps.specs.PlaceOrder.{places_total}
use Rattle.maps.specs.WithMark.{also_marked, get-with_mark}
use Rattle.instances.specs.declared.standing.Standing.{Standing}
use Rattle.instances.specs.declared.standing.Standing.TheVariants as stands
use Rattle.instances.specs.declared.step.Step.{Step}
use Rattle.instances.specs.Known.{Known, fresh_step, inst_place, state_at, state_in}
use Rattle.instances.specs.MarkedDone.{AreDoneMarked, AreDoneMarks, LeftAreDone, MarksDone, NoneIsMarked, done_in, done_mark, first_mark, mark_if_over}
use Rattle.instances.proofs.Settling.{flag_of}

unmarked_before : (so : Bool) (there : Option (Standing × Bool)) (s : Standing) → option_map (also_marked so) there ≡ Some (s, false) → there ≡ Some (s, false)
unmarked_before so None s is = is
unmarked_before true (Some entry) s is = absurd (false≢true (sym (ap flag_of is)))
unmarked_before false (Some entry) s is = is

module _ (marks : MarkedPlaces Standing) where
  -- one more mark
  pub still_done : (place : Place) → LeftAreDone marks → LeftAreDone (with_mark marks place)
  still_done place left key s is = left key s (unmarked_before (eq_by_cmp place_cmp key place) (get marks key) s (sym (get-with_mark places_total marks place key) ∙ is))

  -- one that is left
  pub left_is_done : LeftAreDone marks → (instance : Inst) → IsLeft marks (inst_place instance) → done_mark marks instance ≡ Some false
  left_is_done done instance left = at (get marks (inst_place instance)) refl left
    where
      at : (o : Option (Standing × Bool)) → get marks (inst_place instance) ≡ o → IsSomeAnd o (λ entry. entry.1 ≡ false) → done_in o ≡ Some false
      at None is left = absurd left
      at (Some entry) is left = λ i. mark_if_over (done (inst_place instance) entry.0 (is ∙ (λ j. Some (entry.0, left j))) i) (left i)

  -- if all are marked, those that are done are
  pub done_marked : AreAllMarked marks → AreDoneMarked marks
  done_marked all instance = at (get marks (inst_place instance)) (all (inst_place instance))
    where
      so : (s : Standing) (marked : Bool) → marked ≡ true → IfSome (mark_if_over s marked) (λ marked. marked ≡ true)
      so stands.Ready marked is = tt
      so stands.Running marked is = tt
      so stands.Waiting marked is = tt
      so stands.Done marked is = is

      at : (o : Option (Standing × Bool)) → IfSome o (λ entry. entry.1 ≡ true) → IfSome (done_in o) (λ marked. marked ≡ true)
      at None is = tt
      at (Some entry) is = so entry.0 entry.1 is

-- ---- the marks of all steps

read_any : {A : Type 0} (xs : List A) (n : ℕ) (other : A) → n < length xs → slice_get xs n ≡ Some (get_or xs n other)
read_any [] n other within = absurd (omega (arith, within))
read_any (x ∷ xs) zero other within = refl
read_any (x ∷ xs) (suc n) other within = read_any xs n other (omega (arith, within))

none_past : {A : Type 0} (xs : List A) (n : ℕ) → length xs ≤ n → slice_get xs n ≡ None
none_past [] n past = refl
none_past (x ∷ xs) zero past = absurd (omega (arith, past))
none_past (x ∷ xs) (suc n) past = none_past xs n (omega (arith, past))

module _ (known : Known) (maps : List (Marked Standing)) (all : MarkedPlaces Standing) (is : (place : Place) → get all place ≡ in_map (slice_get maps place.0) place.1) (are : AreDoneMarks known.steps maps) where
  abbrev nobody : Step
  nobody = fresh_step (record { 0 = 0 })

  pub none_marked : NoneIsMarked known all
  none_marked instance = ap done_in (is (inst_place instance)) ∙ at (cases_lt instance.collection.0 (length maps))
    where
      at : (instance.collection.0 < length maps) ⊎ (length maps ≤ instance.collection.0) → done_in (in_map (slice_get maps instance.collection.0) instance.key) ≡ first_mark (state_at known instance)
      at (inl low) =
          ap (λ o. done_in (in_map o instance.key)) (read_any maps instance.collection.0 empty low) ∙ (are.each instance.collection.0 low).each instance.key
          ∙ sym (ap (λ (o : Option Step). first_mark (state_in o instance.key)) (read_any known.steps instance.collection.0 nobody (omega (arith, low, are.many))))
      at (inr past) =
          ap (λ o. done_in (in_map o instance.key)) (none_past maps instance.collection.0 past)
          ∙ sym (ap (λ (o : Option Step). first_mark (state_in o instance.key)) (none_past known.steps instance.collection.0 (omega (arith, past, are.many))))

  pub left_done : LeftAreDone all
  left_done place s left = at (cases_lt place.0 (length maps)) (sym (is place) ∙ left)
    where
      at : (place.0 < length maps) ⊎ (length maps ≤ place.0) → in_map (slice_get maps place.0) place.1 ≡ Some (s, false) → s ≡ stands.Done
      at (inl low) found = (are.each place.0 low).left place.1 s (sym (ap (λ o. in_map o place.1) (read_any maps place.0 empty low)) ∙ found)
      at (inr past) found = absurd (cc (ap (λ o. in_map o place.1) (none_past maps place.0 past), found))

-- the marks of one more step
pub one_more :
    (steps : List Step) (maps : List (Marked Standing)) (n : ℕ) (step : Step) (m : Marked Standing) → length maps ≡ n → n < length steps → step ≡ get_or steps n step →
    ((k : ℕ) → k < length maps → MarksDone (get_or steps k (fresh_step (record { 0 = 0 }))).instances.states (get_or maps k empty)) → MarksDone step.instances.states m →
    (k : ℕ) → k < length (maps ++ m ∷ []) → MarksDone (get_or steps k (fresh_step (record { 0 = 0 }))).instances.states (get_or (maps ++ m ∷ []) k empty)
one_more steps maps n step m many within is each one k low = at (cases_lt k (length maps))
  where
    at : (k < length maps) ⊎ (length maps ≤ k) → MarksDone (get_or steps k (fresh_step (record { 0 = 0 }))).instances.states (get_or (maps ++ m ∷ []) k empty)
    at (inl before) = subst (MarksDone (get_or steps k (fresh_step (record { 0 = 0 }))).instances.states) (sym (get_or_append_left maps (m ∷ []) empty k before)) (each k before)
    at (inr last) =
        let here : k ≡ n = omega (arith, last, low, many, length_push maps m) in
        subst (λ (j : ℕ). MarksDone (get_or steps j (fresh_step (record { 0 = 0 }))).instances.states (get_or (maps ++ m ∷ []) j empty)) (sym here)
        (subst (MarksDone (get_or steps n (fresh_step (record { 0 = 0 }))).instances.states) (sym (get_or_push maps m empty n many))
        (subst (λ (s : Step). MarksDone s.instances.states m) (get_or_read steps n step within is (fresh_step (record { 0 = 0 }))) one))
