-- One instance of one step moves to another state: how this is seen over all steps.
use Rattle.std.proofs.Common.{◌≡◌, ◌≢◌, ◌⊎◌, ◌∙◌, ap, sym, refl, subst, inl, inr, ℕ, zero, suc, ◌+◌, ◌<◌, ◌≤◌, ◌^◌, ◌==◌, min, ℤ, Bool, true, false, cond, List, [], ◌∷◌, set, length, get_or, slice_get, sum_by, Some, is_some, arith}
use mathlib.Core.Bool.{false≢true}
use Rattle.std.specs.Option.{unwrap_or}
use Rattle.std.specs.Ordering.{eq_by_cmp}
use Rattle.std.specs.Cmp.{Equal-is, eq_by_cmp_equiv}
use Rattle.std.specs.FinMap.{get, insert, get-insert, get_tied}
use Rattle.std.proofs.lemmas.Bool.{cases_eq}
use Rattle.std.proofs.lemmas.List.{length-set}
use Rattle.terms.specs.Key.{key_cmp}
use Rattle.terms.specs.declared.name.Inst.{Inst}
use Rattle.maps.specs.Numbered.{Numbered, room_at}
use Rattle.maps.specs.PlaceOrder.{keys_total, same_key}
use Rattle.instances.specs.declared.state.State.{State}
use Rattle.instances.specs.declared.step.Step.{Step}
use Rattle.instances.specs.OfStep.{OfStep, Moves, how_many, one_if}
use Rattle.instances.proofs.Counted.{front, counted}
use Rattle.instances.specs.Known.{Known, state_in, state_at, prescriber_in, least, ArePrescribed, MovesOne}

-- what is at a place, and what is there after a write
pub read_at : {X : Type 0} (xs : List X) (n : ℕ) (x : X) → n < length xs → x ≡ get_or xs n x → slice_get xs n ≡ Some x
read_at [] n x within is = absurd (omega (arith, within))
read_at (first ∷ xs) zero x within is = ap Some (sym is)
read_at (first ∷ xs) (suc n) x within is = read_at xs n x (omega (arith, within)) is

pub written_here : {X : Type 0} (xs : List X) (n : ℕ) (x : X) → n < length xs → slice_get (set xs n x) n ≡ Some x
written_here [] n x within = absurd (omega (arith, within))
written_here (first ∷ xs) zero x within = refl
written_here (first ∷ xs) (suc n) x within = written_here xs n x (omega (arith, within))

pub written_elsewhere : {X : Type 0} (xs : List X) (n other : ℕ) (x : X) → other ≢ n → slice_get (set xs n x) other ≡ slice_get xs other
written_elsewhere [] n other x differs = refl
written_elsewhere (first ∷ xs) zero zero x differs = absurd (differs refl)
written_elsewhere (first ∷ xs) zero (suc other) x differs = refl
written_elsewhere (first ∷ xs) (suc n) zero x differs = refl
written_elsewhere (first ∷ xs) (suc n) (suc other) x differs = written_elsewhere xs n other x (λ same. differs (ap suc same))

-- the least room over steps stays the same if a step keeps its prescriber and its room
least_kept : (collection room : ℕ) (steps : List Step) (n : ℕ) (old new : Step) → old ≡ get_or steps n old → new.prescriber.0 ≡ old.prescriber.0 → new.instances.room ≡ old.instances.room → least collection room (set steps n new) ≡ least collection room steps
least_kept collection room [] n old new is prescriber same = refl
least_kept collection room (step ∷ steps) zero old new is prescriber same =
    ap (λ (p : ℕ). least collection (cond (p == collection) (min room new.instances.room) room) steps) (prescriber ∙ ap (λ (s : Step). s.prescriber.0) is)
    ∙ ap (λ (r : ℕ). least collection (cond (step.prescriber.0 == collection) (min room r) room) steps) (same ∙ ap (λ (s : Step). s.instances.room) is)
least_kept collection room (step ∷ steps) (suc n) old new is prescriber same = least_kept collection (cond (step.prescriber.0 == collection) (min room step.instances.room) room) steps n old new is prescriber same

-- if an element of a list is overwritten, the sum has the new element's number in place of the old one's
summed : (f : Step → ℕ) (steps : List Step) (n : ℕ) (old new : Step) → n < length steps → old ≡ get_or steps n old → sum_by f (set steps n new) + f old ≡ sum_by f steps + f new
summed f [] n old new within is = absurd (omega (arith, within))
summed f (step ∷ steps) zero old new within is = omega (arith, front f new steps, front f step steps, ap f is)
summed f (step ∷ steps) (suc n) old new within is = omega (arith, front f step (set steps n new), front f step steps, summed f steps n old new (omega (arith, within)) is)

module _ (tags : Numbered Bool) (steps : List Step) (instance : Inst) (old : Step) (new : OfStep) (to : State)
    (within : instance.collection.0 < length steps) (is : old ≡ get_or steps instance.collection.0 old) (moves : Moves old.instances new instance.key to) where
  abbrev number : ℕ
  number = instance.collection.0

  abbrev step : Step
  step = record { prescriber = old.prescriber; instances = new }

  at_key : (key : List ℤ) (b : Bool) → eq_by_cmp key_cmp key instance.key ≡ b → get new.states key ≡ cond b (Some to) (get old.instances.states key)
  at_key key b same = ap (λ states. get states key) moves.states ∙ get-insert keys_total old.instances.states instance.key to key ∙ ap (λ t. cond t (Some to) (get old.instances.states key)) same

  pub moved : MovesOne (record { tags = tags; steps = steps }) (record { tags = tags; steps = set steps number step }) instance to
  moved = record {
    tags = refl;
    here = ap (λ o. state_in o instance.key) (written_here steps number step within) ∙ at_key instance.key true ((eq_by_cmp_equiv keys_total).refl instance.key);
    others = λ other differs. elsewhere other differs (cases_eq other.collection.0 number);
    counts = λ test. omega (arith, summed (λ s. how_many test s.instances.states) steps number old step within is, here_counted test);
    prescribers = λ other. by_number other (cases_eq other number);
    room = λ collection. least_kept collection.0 (room_at tags collection.0) steps number old step is refl moves.room;
  }
    where
      before : slice_get steps number ≡ Some old
      before = read_at steps number old within is

      here_counted : (test : State → Bool) → how_many test new.states + one_if test (state_in (slice_get steps number) instance.key) ≡ how_many test old.instances.states + one_if test (Some to)
      here_counted test =
          ap (λ states. how_many test states + one_if test (state_in (slice_get steps number) instance.key)) moves.states
          ∙ ap (λ o. how_many test (insert old.instances.states instance.key to) + one_if test (state_in o instance.key)) before
          ∙ counted test old.instances.states instance.key to

      with_key : (other : Inst) → other ≢ instance → other.collection.0 ≡ number → (b : Bool) → eq_by_cmp key_cmp other.key instance.key ≡ b → get new.states other.key ≡ get old.instances.states other.key
      with_key other differs same true tied =
          let key = same_key other.key instance.key ((Equal-is (key_cmp other.key instance.key)).0 tied) in
          absurd (differs (λ i. record { collection = record { 0 = same i }; key = key i }))
      with_key other differs same false apart = at_key other.key false apart

      elsewhere : (other : Inst) → other ≢ instance → (other.collection.0 ≡ number) ⊎ (other.collection.0 ≢ number) → state_in (slice_get (set steps number step) other.collection.0) other.key ≡ state_in (slice_get steps other.collection.0) other.key
      elsewhere other differs (inl same) =
          ap (λ n. state_in (slice_get (set steps number step) n) other.key) same ∙ ap (λ o. state_in o other.key) (written_here steps number step within)
          ∙ with_key other differs same (eq_by_cmp key_cmp other.key instance.key) refl
          ∙ sym (ap (λ n. state_in (slice_get steps n) other.key) same ∙ ap (λ o. state_in o other.key) before)
      elsewhere other differs (inr another) = ap (λ o. state_in o other.key) (written_elsewhere steps number other.collection.0 step another)

      by_number : (other : ℕ) → (other ≡ number) ⊎ (other ≢ number) → prescriber_in (slice_get (set steps number step) other) ≡ prescriber_in (slice_get steps other)
      by_number other (inl same) =
          ap (λ n. prescriber_in (slice_get (set steps number step) n)) same ∙ ap prescriber_in (written_here steps number step within)
          ∙ sym (ap (λ n. prescriber_in (slice_get steps n)) same ∙ ap prescriber_in before)
      by_number other (inr another) = ap prescriber_in (written_elsewhere steps number other step another)

  -- the instances are the same as before, so they are prescribed as before
  pub still_prescribed : is_some (get old.instances.states instance.key) ≡ true → (length steps ≤ 2 ^ 16) × ArePrescribed tags steps → (length (set steps number step) ≤ 2 ^ 16) × ArePrescribed tags (set steps number step)
  still_prescribed there whole = (omega (arith, whole.0, length-set steps number step), λ n other key stands. by_number n other key stands (cases_eq n number))
    where
      same_there : (key : List ℤ) (b : Bool) → eq_by_cmp key_cmp key instance.key ≡ b → is_some (get new.states key) ≡ is_some (get old.instances.states key)
      same_there key true tied =
          ap is_some (at_key key true tied) ∙ sym (ap is_some (sym (get_tied keys_total old.instances.states key instance.key ((Equal-is (key_cmp key instance.key)).0 tied))) ∙ there)
      same_there key false apart = ap is_some (at_key key false apart)

      by_number : (n : ℕ) (other : Step) (key : List ℤ) → slice_get (set steps number step) n ≡ Some other → (n ≡ number) ⊎ (n ≢ number) → is_some (get other.instances.states key) ≡ is_some (get tags.items (other.prescriber.0, key))
      by_number n other key stands (inl same) =
          let it : step ≡ other = ap (λ o. unwrap_or o other) (sym (written_here steps number step within) ∙ sym (ap (λ m. slice_get (set steps number step) m) same) ∙ stands) in
          subst (λ (s : Step). is_some (get s.instances.states key) ≡ is_some (get tags.items (s.prescriber.0, key))) it
          (same_there key (eq_by_cmp key_cmp key instance.key) refl ∙ whole.1 number old key (read_at steps number old within is))
      by_number n other key stands (inr another) = whole.1 n other key (sym (written_elsewhere steps number n step another) ∙ stands)

-- an instance that has a state belongs to a step of the list
pub of_step : (steps : List Step) (n : ℕ) (key : List ℤ) → is_some (state_in (slice_get steps n) key) ≡ true → n < length steps
of_step [] n key there = absurd (false≢true there)
of_step (step ∷ steps) zero key there = omega arith
of_step (step ∷ steps) (suc n) key there = omega (arith, of_step steps n key there)

-- and has that state in the step
pub state_here : (steps : List Step) (n : ℕ) (key : List ℤ) (old : Step) → n < length steps → old ≡ get_or steps n old → state_in (slice_get steps n) key ≡ get old.instances.states key
state_here steps n key old within is = ap (λ o. state_in o key) (read_at steps n old within is)

-- the same in terms of what was seen before, for an instance that has a state
module _ (tags : Numbered Bool) (steps : List Step) (instance : Inst) (old : Step) (new : OfStep) (to : State) (now : Known) (task : Inst)
    (seen : ◌≡◌ {A = Known} (record { tags = tags; steps = steps }) now) (same : instance ≡ task) (there : is_some (state_at now task) ≡ true)
    (is : old ≡ get_or steps instance.collection.0 old) (moves : Moves old.instances new instance.key to) where
  there_before : is_some (state_in (slice_get steps instance.collection.0) instance.key) ≡ true
  there_before = ap (λ (i : Inst). is_some (state_in (slice_get steps i.collection.0) i.key)) same ∙ ap (λ known. is_some (state_at known task)) seen ∙ there

  within : instance.collection.0 < length steps
  within = of_step steps instance.collection.0 instance.key there_before

  pub moved_known : MovesOne now (record { tags = tags; steps = set steps instance.collection.0 (record { prescriber = old.prescriber; instances = new }) }) task to
  moved_known =
      subst (λ known. MovesOne known (record { tags = tags; steps = set steps instance.collection.0 (record { prescriber = old.prescriber; instances = new }) }) task to) seen
      (subst (λ i. MovesOne (record { tags = tags; steps = steps }) (record { tags = tags; steps = set steps instance.collection.0 (record { prescriber = old.prescriber; instances = new }) }) i to) same
      (moved tags steps instance old new to within is moves))

  pub prescribed_known : (length steps ≤ 2 ^ 16) × ArePrescribed tags steps → (length (set steps instance.collection.0 (record { prescriber = old.prescriber; instances = new })) ≤ 2 ^ 16) × ArePrescribed tags (set steps instance.collection.0 (record { prescriber = old.prescriber; instances = new }))
  prescribed_known whole =
      still_prescribed tags steps instance old new to within is moves
      (ap is_some (sym (state_here steps instance.collection.0 instance.key old within is)) ∙ there_before) whole

-- the state of an instance is the state that it has in its step
pub state_known :
    (tags : Numbered Bool) (steps : List Step) (instance : Inst) (old : Step) (now : Known) → ◌≡◌ {A = Known} (record { tags = tags; steps = steps }) now →
    instance.collection.0 < length steps → old ≡ get_or steps instance.collection.0 old → state_at now instance ≡ get old.instances.states instance.key
state_known tags steps instance old now seen within is =
    sym (ap (λ known. state_at known instance) seen) ∙ state_here steps instance.collection.0 instance.key old within is
