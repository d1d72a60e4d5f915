-- A tag is added, and with it the instances that it prescribes: how this is seen over all steps.
use Rattle.std.proofs.Common.{◌≡◌, ◌≢◌, ◌∙◌, ap, sym, refl, subst, ℕ, zero, suc, ◌+◌, ◌-◌, ◌<◌, ◌≤◌, ◌^◌, ◌==◌, ◌&&◌, min, ℤ, Bool, true, false, cond, List, [], ◌∷◌, length, map, get_or, slice_get, Option, Some, None, option_map, is_some, Result, Ok, Err, IfErr, is_ok, arith}
use mathlib.Core.Bool.{false≢true}
use Rattle.std.specs.Option.{unwrap_or}
use Rattle.std.specs.declared.cmp.Ordering.{Ordering}
use Rattle.std.specs.declared.cmp.Ordering.TheVariants.{Less, Equal, Greater}
use Rattle.std.specs.Ordering.{is_eq, eq_by_cmp, nat_cmp, ordering_then}
use Rattle.std.specs.Cmp.{unsigned_Decides, nat_cmp_total}
use Rattle.std.specs.FinMap.{get, get-insert, insert, nat_cmp-IsAntisymmetric}
use Rattle.std.proofs.lemmas.Cmp.{tied_itself}
use Rattle.std.proofs.lemmas.List.{length-map}
use Rattle.terms.specs.Key.{key_cmp}
use Rattle.terms.specs.declared.name.Tag.{Tag}
use Rattle.terms.specs.declared.name.TagCollection.{TagCollection}
use Rattle.maps.specs.Numbered.{Numbered, place_cmp, room_at, AddsAt}
use Rattle.maps.specs.Insertion.{IsRefused}
use Rattle.maps.specs.declared.error.InsertError.{InsertError}
use Rattle.maps.specs.declared.error.InsertError.TheVariants.{Taken, NoMemory}
use Rattle.maps.specs.PlaceOrder.{keys_total, places_total}
use Rattle.instances.specs.declared.state.State.{State}
use Rattle.instances.specs.declared.state.State.TheVariants.{Ready}
use Rattle.instances.specs.declared.step.Step.{Step}
use Rattle.instances.specs.Known.{tag_place, state_in, prescriber_in, prescribed_in, least, ArePrescribed, Prescribes, AllCanTake, with_instance}
use Rattle.instances.proofs.Stepwise.{mapped_get}

-- two numbers are equal if the test says so
pub same_number : (a b : ℕ) → (a == b) ≡ true → a ≡ b
same_number a b is = (unsigned_Decides a b).0 is

other_number : (a b : ℕ) → a ≢ b → (a == b) ≡ false
other_number a b differs = by_test (a == b) refl
  where
    by_test : (t : Bool) → (a == b) ≡ t → t ≡ false
    by_test true is = absurd (differs (same_number a b is))
    by_test false is = refl

-- ---- room

pub least_le : (collection room : ℕ) (steps : List Step) → least collection room steps ≤ room
least_le collection room [] = omega arith
least_le collection room (step ∷ steps) = by_test (step.prescriber.0 == collection) (least_le collection (min room step.instances.room) steps) (least_le collection room steps)
  where
    by_test : (t : Bool) → least collection (min room step.instances.room) steps ≤ min room step.instances.room → least collection room steps ≤ room → least collection (cond t (min room step.instances.room) room) steps ≤ room
    by_test true here rest = omega (arith, here)
    by_test false here rest = rest

pub least_of_step : (collection room : ℕ) (steps : List Step) (n : ℕ) (step : Step) → slice_get steps n ≡ Some step → step.prescriber.0 ≡ collection → least collection room steps ≤ step.instances.room
least_of_step collection room [] n step there is = absurd (cc)
least_of_step collection room (first ∷ steps) zero step there is =
    let it : first ≡ step = ap (λ o. unwrap_or o step) there in
    let test : (first.prescriber.0 == collection) ≡ true = (unsigned_Decides first.prescriber.0 collection).1 (ap (λ (s : Step). s.prescriber.0) it ∙ is) in
    let below = least_le collection (min room first.instances.room) steps in
    omega (arith, below, ap (λ t. least collection (cond t (min room first.instances.room) room) steps) test, ap (λ (s : Step). s.instances.room) it)
least_of_step collection room (first ∷ steps) (suc n) step there is = least_of_step collection (cond (first.prescriber.0 == collection) (min room first.instances.room) room) steps n step there is

module _ (name : Tag) where
  abbrev collection : ℕ
  collection = name.collection.0

  abbrev with_one : Step → Step
  with_one = with_instance name

  abbrev taken : Step → Step
  taken step = record { prescriber = step.prescriber; instances = record { states = insert step.instances.states name.key Ready; room = step.instances.room - 1 } }

  abbrev after : Bool → Step → Step
  after t step = cond t (taken step) step

  same_prescriber : (t : Bool) (step : Step) → (after t step).prescriber ≡ step.prescriber
  same_prescriber true step = refl
  same_prescriber false step = refl

  least_lowered : (steps : List Step) (room lower : ℕ) → lower + 1 ≡ room → 0 < least collection room steps → least collection lower (map with_one steps) + 1 ≡ least collection room steps
  least_lowered [] room lower is some = is
  least_lowered (step ∷ steps) room lower is some = by_test (step.prescriber.0 == collection) refl some (least_lowered steps (min room step.instances.room) (min lower (step.instances.room - 1))) (least_lowered steps room lower)
    where
      by_test :
          (t : Bool) → (step.prescriber.0 == collection) ≡ t → 0 < least collection (cond (step.prescriber.0 == collection) (min room step.instances.room) room) steps →
          (min lower (step.instances.room - 1) + 1 ≡ min room step.instances.room → 0 < least collection (min room step.instances.room) steps → least collection (min lower (step.instances.room - 1)) (map with_one steps) + 1 ≡ least collection (min room step.instances.room) steps) →
          (lower + 1 ≡ room → 0 < least collection room steps → least collection lower (map with_one steps) + 1 ≡ least collection room steps) →
          least collection (cond ((with_one step).prescriber.0 == collection) (min lower (with_one step).instances.room) lower) (map with_one steps) + 1
          ≡ least collection (cond (step.prescriber.0 == collection) (min room step.instances.room) room) steps
      by_test true test some here rest =
          let more : 0 < least collection (min room step.instances.room) steps = subst (λ t. 0 < least collection (cond t (min room step.instances.room) room) steps) test some in
          let low = least_le collection (min room step.instances.room) steps in
          ap (λ t. least collection (cond ((after t step).prescriber.0 == collection) (min lower (after t step).instances.room) lower) (map with_one steps) + 1) test
          ∙ ap (λ t. least collection (cond t (min lower (step.instances.room - 1)) lower) (map with_one steps) + 1) test
          ∙ here (omega (arith, is, more, low)) more
          ∙ ap (λ t. least collection (cond t (min room step.instances.room) room) steps) (sym test)
      by_test false test some here rest =
          let more : 0 < least collection room steps = subst (λ t. 0 < least collection (cond t (min room step.instances.room) room) steps) test some in
          ap (λ t. least collection (cond ((after t step).prescriber.0 == collection) (min lower (after t step).instances.room) lower) (map with_one steps) + 1) test
          ∙ ap (λ t. least collection (cond t (min lower step.instances.room) lower) (map with_one steps) + 1) test
          ∙ rest is more
          ∙ ap (λ t. least collection (cond t (min room step.instances.room) room) steps) (sym test)

  least_other : (other room : ℕ) (steps : List Step) → other ≢ collection → least other room (map with_one steps) ≡ least other room steps
  least_other other room [] differs = refl
  least_other other room (step ∷ steps) differs =
      least_other other (cond ((with_one step).prescriber.0 == other) (min room (with_one step).instances.room) room) steps differs
      ∙ ap (λ r. least other r steps) (by_test (step.prescriber.0 == collection) refl)
    where
      by_test : (t : Bool) → (step.prescriber.0 == collection) ≡ t → cond ((after (step.prescriber.0 == collection) step).prescriber.0 == other) (min room (after (step.prescriber.0 == collection) step).instances.room) room ≡ cond (step.prescriber.0 == other) (min room step.instances.room) room
      by_test true test =
          let apart : (step.prescriber.0 == other) ≡ false = other_number step.prescriber.0 other (λ same. differs (sym same ∙ same_number step.prescriber.0 collection test)) in
          ap (λ t. cond ((after t step).prescriber.0 == other) (min room (after t step).instances.room) room) test
          ∙ ap (λ t. cond t (min room (step.instances.room - 1)) room) apart ∙ ap (λ t. cond t (min room step.instances.room) room) (sym apart)
      by_test false test = ap (λ t. cond ((after t step).prescriber.0 == other) (min room (after t step).instances.room) room) test

  -- ---- states

  state_after : (o : Option Step) (key : List ℤ) → state_in (option_map with_one o) key ≡ cond (prescribed_in (prescriber_in o) name key) (Some Ready) (state_in o key)
  state_after None key = refl
  state_after (Some step) key = by_test (step.prescriber.0 == collection)
    where
      by_test : (t : Bool) → get (after t step).instances.states key ≡ cond (t && eq_by_cmp key_cmp key name.key) (Some Ready) (get step.instances.states key)
      by_test true = get-insert keys_total step.instances.states name.key Ready key
      by_test false = refl

  prescriber_after : (o : Option Step) → prescriber_in (option_map with_one o) ≡ prescriber_in o
  prescriber_after None = refl
  prescriber_after (Some step) = ap (λ (p : TagCollection). Some p.0) (same_prescriber (step.prescriber.0 == collection) step)

  -- a place of another collection, or of this one
  tied : (number : ℕ) (key : List ℤ) → number ≡ collection → eq_by_cmp place_cmp (number, key) (tag_place name) ≡ eq_by_cmp key_cmp key name.key
  tied number key same = ap (λ r. is_eq (ordering_then r (key_cmp key name.key))) (ap (nat_cmp number) (sym same) ∙ tied_itself nat_cmp_total number)

  apart : (r s : Ordering) → r ≢ Equal → is_eq (ordering_then r s) ≡ false
  apart Less s differs = refl
  apart Equal s differs = absurd (differs refl)
  apart Greater s differs = refl

  untied : (number : ℕ) (key : List ℤ) → number ≢ collection → eq_by_cmp place_cmp (number, key) (tag_place name) ≡ false
  untied number key differs = apart (nat_cmp number collection) (key_cmp key name.key) (λ tie. differs (nat_cmp-IsAntisymmetric number collection tie))

  module _ (tags new_tags : Numbered Bool) (mark : Bool) (steps : List Step) (adds : AddsAt tags new_tags (tag_place name) mark) where
    -- the steps can take the tag that is not there
    pub can_take : ArePrescribed tags steps → 0 < least collection (room_at tags collection) steps → AllCanTake name steps
    can_take prescribed some number step there same = (
      not_there (get step.instances.states name.key) (prescribed number step name.key there ∙ ap (λ n. is_some (get tags.items (n, name.key))) same ∙ ap is_some adds.absent),
      omega (arith, some, least_of_step collection (room_at tags collection) steps number step there same),
    )
      where
        not_there : (o : Option State) → is_some o ≡ false → o ≡ None
        not_there None is = refl
        not_there (Some s) is = absurd (false≢true (sym is))

    -- each instance is prescribed as before, or by the new tag
    pub all_prescribed : (length steps ≤ 2 ^ 16) × ArePrescribed tags steps → (length (map with_one steps) ≤ 2 ^ 16) × ArePrescribed new_tags (map with_one steps)
    all_prescribed whole = (omega (arith, whole.0, length-map steps with_one), λ number step key there. in_steps number step key (slice_get steps number) refl (sym (mapped_get with_one steps number) ∙ there))
      where
        one_tag : (step : Step) (key : List ℤ) → is_some (get step.instances.states key) ≡ is_some (get tags.items (step.prescriber.0, key)) → (t : Bool) → (step.prescriber.0 == collection) ≡ t →
            is_some (get (after t step).instances.states key) ≡ is_some (get new_tags.items ((after t step).prescriber.0, key))
        one_tag step key before true test =
            let here = ap (λ tags. get tags (step.prescriber.0, key)) adds.items ∙ get-insert places_total tags.items (tag_place name) mark (step.prescriber.0, key) ∙ ap (λ t. cond t (Some mark) (get tags.items (step.prescriber.0, key))) (tied step.prescriber.0 key (same_number step.prescriber.0 collection test)) in
            ap is_some (get-insert keys_total step.instances.states name.key Ready key) ∙ same_some (eq_by_cmp key_cmp key name.key) ∙ ap is_some (sym here)
          where
            same_some : (t : Bool) → is_some (cond t (Some Ready) (get step.instances.states key)) ≡ is_some (cond t (Some mark) (get tags.items (step.prescriber.0, key)))
            same_some true = refl
            same_some false = before
        one_tag step key before false test =
            let other : step.prescriber.0 ≢ collection = λ same. false≢true (sym test ∙ (unsigned_Decides step.prescriber.0 collection).1 same) in
            let here = ap (λ tags. get tags (step.prescriber.0, key)) adds.items ∙ get-insert places_total tags.items (tag_place name) mark (step.prescriber.0, key) ∙ ap (λ t. cond t (Some mark) (get tags.items (step.prescriber.0, key))) (untied step.prescriber.0 key other) in
            before ∙ ap is_some (sym here)

        in_steps : (number : ℕ) (step : Step) (key : List ℤ) (o : Option Step) → slice_get steps number ≡ o → option_map (with_one) o ≡ Some step → is_some (get step.instances.states key) ≡ is_some (get new_tags.items (step.prescriber.0, key))
        in_steps number step key None was there = absurd (cc)
        in_steps number step key (Some old) was there =
            let it : with_one old ≡ step = ap (λ o. unwrap_or o step) there in
            subst (λ (s : Step). is_some (get s.instances.states key) ≡ is_some (get new_tags.items (s.prescriber.0, key))) it
            (one_tag old key (whole.1 number old key was) (old.prescriber.0 == collection) refl)

    pub prescribes : 0 < least collection (room_at tags collection) steps → Prescribes (record { tags = tags; steps = steps }) (record { tags = new_tags; steps = map with_one steps }) name mark (λ _. Ready)
    prescribes some = record {
      tags = adds;
      states = λ instance. ap (λ o. state_in o instance.key) (mapped_get with_one steps instance.collection.0) ∙ state_after (slice_get steps instance.collection.0) instance.key;
      prescribers = λ number. ap prescriber_in (mapped_get with_one steps number) ∙ prescriber_after (slice_get steps number);
      room = least_lowered steps (room_at tags collection) (room_at new_tags collection) (adds.lower (omega (arith, some, least_le collection (room_at tags collection) steps))) some;
      other_room = λ other differs. ap (λ r. least other.0 r (map with_one steps)) (adds.other_room.others other.0 differs) ∙ least_other other.0 (room_at tags other.0) steps differs;
    }

-- if there is room for a collection, then there is such a collection
pub room_within : (rooms : List ℕ) (n : ℕ) → 0 < get_or rooms n 0 → n < length rooms
room_within [] n some = absurd (omega (arith, some))
room_within (room ∷ rooms) zero some = omega arith
room_within (room ∷ rooms) (suc n) some = omega (arith, room_within rooms n some)

-- an insertion is not refused if there is room and the entry is not there
pub not_refused : {X : Type 0} (there : Option X) (room : ℕ) (r : Result (Unit {0}) (InsertError X)) → there ≡ None → 0 < room → IfErr r (IsRefused there room) → is_ok r ≡ true
not_refused there room (Ok done) gone some refused = refl
not_refused there room (Err (Taken value)) gone some refused = absurd (none_is_some value (sym gone ∙ refused))
  where
    none_is_some : {X : Type 0} (x : X) → None ≡ Some x → ⊥
    none_is_some x is = false≢true (ap is_some is)
not_refused there room (Err NoMemory) gone some refused = absurd (omega (arith, some, refused.1))
