-- Room that is made in one step after another.
use Rattle.std.proofs.Common.{◌≡◌, ◌≢◌, ◌∙◌, ap, sym, refl, subst, ℕ, zero, suc, ◌<◌, ◌≤◌, ◌^◌, ◌==◌, min, ℤ, Bool, true, false, cond, List, [], ◌∷◌, map, take, set, length, get_or, slice_get, Option, Some, None, option_map, is_some, Result, Ok, Err, OnErr, arith}
use mathlib.Core.Bool.{false≢true}
use Rattle.std.specs.Option.{unwrap_or}
use Rattle.std.specs.FinMap.{empty, get, get-empty}
use Rattle.std.proofs.lemmas.List.{length-map}
use Rattle.terms.specs.Key.{key_cmp}
use Rattle.terms.specs.declared.name.TagCollection.{TagCollection}
use Rattle.maps.specs.Numbered.{Numbered, none_held, place_cmp, room_at, OnlyMakesRoom as TagsMakeRoom}
use Rattle.instances.specs.declared.step.Step.{Step}
use Rattle.instances.specs.Known.{fresh_step, state_in, prescriber_in, least, ArePrescribed, OnlyMakesRoom, GrownStep, AllGrown, AllHaveRoom}
use Rattle.instances.proofs.Prescribing.{least_of_step, same_number}
use Rattle.instances.proofs.Stepwise.{mapped_get}

grown_twice : (collection : ℕ) (old mid new : Step) → GrownStep collection old mid → GrownStep collection mid new → GrownStep collection old new
grown_twice collection old mid new one two = record {
  prescriber = two.prescriber ∙ one.prescriber;
  states = two.states ∙ one.states;
  not_less = omega (arith, one.not_less, two.not_less);
  other = λ differs. two.other (λ same. differs (sym (ap (λ (p : TagCollection). p.0) one.prescriber) ∙ same)) ∙ one.other differs;
}

pub grown_itself : (collection : ℕ) (steps : List Step) → AllGrown collection steps steps
grown_itself collection [] = tt
grown_itself collection (step ∷ steps) = (record { prescriber = refl; states = refl; not_less = omega arith; other = λ differs. refl }, grown_itself collection steps)

pub grown_at : (collection : ℕ) (olds news : List Step) (n : ℕ) (step new : Step) → AllGrown collection olds news → step ≡ get_or news n step → GrownStep collection step new → AllGrown collection olds (set news n new)
grown_at collection [] [] n step new grown is more = tt
grown_at collection [] (first ∷ news) n step new grown is more = absurd grown
grown_at collection (old ∷ olds) [] n step new grown is more = absurd grown
grown_at collection (old ∷ olds) (first ∷ news) zero step new grown is more = (grown_twice collection old first new grown.0 (subst (λ s. GrownStep collection s new) is more), grown.1)
grown_at collection (old ∷ olds) (first ∷ news) (suc n) step new grown is more = (grown.0, grown_at collection olds news n step new grown.1 is more)

pub room_at_next : (collection count : ℕ) (steps : List Step) (n : ℕ) (new : Step) → n < length steps → AllHaveRoom collection count (take n steps) → (new.prescriber.0 ≡ collection → count ≤ new.instances.room) → AllHaveRoom collection count (take (suc n) (set steps n new))
room_at_next collection count [] n new within rooms here = absurd (omega (arith, within))
room_at_next collection count (step ∷ steps) zero new within rooms here = (here, tt)
room_at_next collection count (step ∷ steps) (suc n) new within rooms here = (rooms.0, room_at_next collection count steps n new (omega (arith, within)) rooms.1 here)

pub take_whole : (steps : List Step) → take (length steps) steps ≡ steps
take_whole [] = refl
take_whole (step ∷ steps) = ap (λ rest. step ∷ rest) (take_whole steps)

pub as_long : (collection : ℕ) (olds news : List Step) → AllGrown collection olds news → length news ≡ length olds
as_long collection [] [] grown = refl
as_long collection [] (new ∷ news) grown = absurd grown
as_long collection (old ∷ olds) [] grown = absurd grown
as_long collection (old ∷ olds) (new ∷ news) grown = ap suc (as_long collection olds news grown.1)

-- ---- the least room

pub least_at_least : (collection count room : ℕ) (steps : List Step) → count ≤ room → AllHaveRoom collection count steps → count ≤ least collection room steps
least_at_least collection count room [] enough rooms = enough
least_at_least collection count room (step ∷ steps) enough rooms = least_at_least collection count (cond (step.prescriber.0 == collection) (min room step.instances.room) room) steps (by_test (step.prescriber.0 == collection) refl) rooms.1
  where
    by_test : (t : Bool) → (step.prescriber.0 == collection) ≡ t → count ≤ cond (step.prescriber.0 == collection) (min room step.instances.room) room
    by_test true test = subst (λ t. count ≤ cond t (min room step.instances.room) room) (sym test) (omega (arith, enough, rooms.0 (same_number step.prescriber.0 collection test)))
    by_test false test = subst (λ t. count ≤ cond t (min room step.instances.room) room) (sym test) enough

least_not_less : (collection room more : ℕ) (olds news : List Step) → room ≤ more → AllGrown collection olds news → least collection room olds ≤ least collection more news
least_not_less collection room more [] [] up grown = up
least_not_less collection room more [] (new ∷ news) up grown = absurd grown
least_not_less collection room more (old ∷ olds) [] up grown = absurd grown
least_not_less collection room more (old ∷ olds) (new ∷ news) up grown =
    least_not_less collection (cond (old.prescriber.0 == collection) (min room old.instances.room) room) (cond (new.prescriber.0 == collection) (min more new.instances.room) more) olds news
    (subst (λ (p : TagCollection). cond (old.prescriber.0 == collection) (min room old.instances.room) room ≤ cond (p.0 == collection) (min more new.instances.room) more) (sym grown.0.prescriber) (by_test (old.prescriber.0 == collection)))
    grown.1
  where
    by_test : (t : Bool) → cond t (min room old.instances.room) room ≤ cond t (min more new.instances.room) more
    by_test true = omega (arith, up, grown.0.not_less)
    by_test false = up

least_of_others : (collection other room : ℕ) (olds news : List Step) → other ≢ collection → AllGrown collection olds news → least other room news ≡ least other room olds
least_of_others collection other room [] [] differs grown = refl
least_of_others collection other room [] (new ∷ news) differs grown = absurd grown
least_of_others collection other room (old ∷ olds) [] differs grown = absurd grown
least_of_others collection other room (old ∷ olds) (new ∷ news) differs grown =
    least_of_others collection other (cond (new.prescriber.0 == other) (min room new.instances.room) room) olds news differs grown.1
    ∙ ap (λ r. least other r olds) (ap (λ (p : TagCollection). cond (p.0 == other) (min room new.instances.room) room) grown.0.prescriber ∙ by_test (old.prescriber.0 == other) refl)
  where
    by_test : (t : Bool) → (old.prescriber.0 == other) ≡ t → cond (old.prescriber.0 == other) (min room new.instances.room) room ≡ cond (old.prescriber.0 == other) (min room old.instances.room) room
    by_test true test = ap (λ (s : Step). cond (old.prescriber.0 == other) (min room s.instances.room) room) (grown.0.other (λ same. differs (sym (same_number old.prescriber.0 other test) ∙ same)))
    by_test false test = ap (λ t. cond t (min room new.instances.room) room) test ∙ ap (λ t. cond t (min room old.instances.room) room) (sym test)

-- ---- what is seen

state_kept : (collection : ℕ) (olds news : List Step) (n : ℕ) (key : List ℤ) → AllGrown collection olds news → state_in (slice_get news n) key ≡ state_in (slice_get olds n) key
state_kept collection [] [] n key grown = refl
state_kept collection [] (new ∷ news) n key grown = absurd grown
state_kept collection (old ∷ olds) [] n key grown = absurd grown
state_kept collection (old ∷ olds) (new ∷ news) zero key grown = ap (λ states. get states key) grown.0.states
state_kept collection (old ∷ olds) (new ∷ news) (suc n) key grown = state_kept collection olds news n key grown.1

prescriber_kept : (collection : ℕ) (olds news : List Step) (n : ℕ) → AllGrown collection olds news → prescriber_in (slice_get news n) ≡ prescriber_in (slice_get olds n)
prescriber_kept collection [] [] n grown = refl
prescriber_kept collection [] (new ∷ news) n grown = absurd grown
prescriber_kept collection (old ∷ olds) [] n grown = absurd grown
prescriber_kept collection (old ∷ olds) (new ∷ news) zero grown = ap (λ (p : TagCollection). Some p.0) grown.0.prescriber
prescriber_kept collection (old ∷ olds) (new ∷ news) (suc n) grown = prescriber_kept collection olds news n grown.1

pub still_prescribed : (collection : ℕ) (tags new_tags : Numbered Bool) (olds news : List Step) → new_tags.items ≡ tags.items → AllGrown collection olds news →
    (length olds ≤ 2 ^ 16) × ArePrescribed tags olds → (length news ≤ 2 ^ 16) × ArePrescribed new_tags news
still_prescribed collection tags new_tags olds news same grown whole =
    (omega (arith, whole.0, as_long collection olds news grown), λ n new key there. by_old n new key there (slice_get olds n) refl)
  where
    no_step : (n : ℕ) (new : Step) → slice_get news n ≡ Some new → slice_get olds n ≡ None → ⊥
    no_step n new there none = none_is_some (sym (ap prescriber_in none) ∙ sym (prescriber_kept collection olds news n grown) ∙ ap prescriber_in there)
      where
        none_is_some : None ≡ Some new.prescriber.0 → ⊥
        none_is_some is = false≢true (ap is_some is)

    by_old : (n : ℕ) (new : Step) (key : List ℤ) → slice_get news n ≡ Some new → (o : Option Step) → slice_get olds n ≡ o → is_some (get new.instances.states key) ≡ is_some (get new_tags.items (new.prescriber.0, key))
    by_old n new key there None was = absurd (no_step n new there was)
    by_old n new key there (Some old) was =
        let state = sym (ap (λ o. state_in o key) there) ∙ state_kept collection olds news n key grown ∙ ap (λ o. state_in o key) was in
        let prescriber : new.prescriber.0 ≡ old.prescriber.0 = ap (λ o. unwrap_or o 0) (sym (ap prescriber_in there) ∙ prescriber_kept collection olds news n grown ∙ ap prescriber_in was) in
        ap is_some state ∙ whole.1 n old key was ∙ ap (λ p. is_some (get tags.items (p, key))) (sym prescriber) ∙ ap (λ items. is_some (get items (new.prescriber.0, key))) (sym same)

pub makes_room :
    (collection : TagCollection) (tags new_tags : Numbered Bool) (olds news : List Step) → TagsMakeRoom tags new_tags collection.0 → AllGrown collection.0 olds news →
    OnlyMakesRoom (record { tags = tags; steps = olds }) (record { tags = new_tags; steps = news }) collection
makes_room collection tags new_tags olds news room grown = record {
  tags = room.items;
  states = λ instance. state_kept collection.0 olds news instance.collection.0 instance.key grown;
  prescribers = λ number. prescriber_kept collection.0 olds news number grown;
  tag_collections = room.other_room.collections;
  not_less = least_not_less collection.0 (room_at tags collection.0) (room_at new_tags collection.0) olds news room.not_less grown;
  other_room = λ other differs. ap (λ r. least other.0 r news) (room.other_room.others other.0 differs) ∙ least_of_others collection.0 other.0 (room_at tags other.0) olds news differs grown;
}

-- ---- without tags

pub fresh_prescribed : (tags : ℕ) (prescribers : List TagCollection) → length prescribers ≤ 2 ^ 16 → (length (map fresh_step prescribers) ≤ 2 ^ 16) × ArePrescribed (none_held tags) (map fresh_step prescribers)
fresh_prescribed tags prescribers few =
    (omega (arith, few, length-map prescribers fresh_step), λ number step key there. by_prescriber number step key (slice_get prescribers number) (sym (mapped_get fresh_step prescribers number) ∙ there))
  where
    by_prescriber : (number : ℕ) (step : Step) (key : List ℤ) (o : Option TagCollection) → option_map fresh_step o ≡ Some step → is_some (get step.instances.states key) ≡ is_some (get (empty {X = Bool} {R = place_cmp}) (step.prescriber.0, key))
    by_prescriber number step key None there = absurd (cc)
    by_prescriber number step key (Some prescriber) there =
        subst (λ (s : Step). is_some (get s.instances.states key) ≡ is_some (get (empty {X = Bool} {R = place_cmp}) (s.prescriber.0, key))) (ap (λ o. unwrap_or o step) there)
        (ap is_some (get-empty key_cmp key) ∙ sym (ap is_some (get-empty place_cmp (prescriber.0, key))))

-- ---- a refusal

pub on_err : {T E P : Type 0} (r : Result T E) → P → OnErr r P
on_err (Ok done) holds = tt
on_err (Err error) holds = holds

-- if a step has less room, so has the collection that prescribes it
pub least_below :
    (collection count room : ℕ) (olds news : List Step) (n : ℕ) (step : Step) → n < length news → AllGrown collection olds news → step ≡ get_or news n step → step.prescriber.0 ≡ collection →
    step.instances.room < count → least collection room olds < count
least_below collection count room [] [] n step within grown is prescribes less = absurd (omega (arith, within))
least_below collection count room [] (new ∷ news) n step within grown is prescribes less = absurd grown
least_below collection count room (old ∷ olds) [] n step within grown is prescribes less = absurd grown
least_below collection count room (old ∷ olds) (new ∷ news) zero step within grown is prescribes less =
    let same : old.prescriber.0 ≡ collection = sym (ap (λ (p : TagCollection). p.0) grown.0.prescriber) ∙ sym (ap (λ (s : Step). s.prescriber.0) is) ∙ prescribes in
    omega (arith, least_of_step collection room (old ∷ olds) 0 old refl same, grown.0.not_less, less, ap (λ (s : Step). s.instances.room) is)
least_below collection count room (old ∷ olds) (new ∷ news) (suc n) step within grown is prescribes less =
    least_below collection count (cond (old.prescriber.0 == collection) (min room old.instances.room) room) olds news n step (omega (arith, within)) grown.1 is prescribes less
