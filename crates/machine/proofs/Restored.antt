-- A restored store holds what the image lists.
use Rattle.std.proofs.Common.{◌≡◌, ◌⊎◌, ◌∙◌, ap, sym, refl, subst, inl, inr, ℕ, ℤ, ◌==◌, ◌<◌, Bool, true, false, cond, ◌&&◌, List, [], ◌∷◌, length, map, slice_get, Option, Some, None, is_some}
use Rattle.std.proofs.lemmas.Bool.{false≢true}
use Rattle.std.proofs.lemmas.Cmp.{tied_itself}
use Rattle.std.proofs.lemmas.Option.{slice_get-map}
use Rattle.std.specs.Bool.{⊤}
use Rattle.std.specs.List.{AllByRecursion}
use Rattle.std.specs.Option.{option_map, unwrap_or}
use Rattle.std.specs.Ordering.{is_eq, eq_by_cmp}
use Rattle.std.specs.Cmp.{IsTotalOrder, unsigned_Decides}
use Rattle.std.specs.FinMap.{FinMap, entries, find, get, get-empty, get-entries}
use Rattle.terms.specs.declared.name.Addr.{Addr}
use Rattle.terms.specs.declared.name.Tag.{Tag}
use Rattle.terms.specs.declared.name.TagCollection.{TagCollection}
use Rattle.terms.specs.declared.name.Inst.{Inst}
use Rattle.terms.specs.declared.producer.Producer.{Producer}
use Rattle.terms.specs.declared.producer.Producer.TheVariants.{Env, By}
use Rattle.terms.specs.declared.put.TheConstants.{MOST_PUTS}
use Rattle.terms.specs.Key.{key_cmp}
use Rattle.terms.specs.Facts.{Fact, tag, item, done, bad}
use Rattle.terms.specs.Sets.{Facts, OneFact}
use Rattle.codec.specs.declared.image.Image.{Image}
use Rattle.codec.specs.Image.{environment_in, facts_in}
use Rattle.codec.specs.Spelling.{HasPutNumber, IsNumbered}
use Rattle.maps.specs.Numbered.{Numbered, Place, place_cmp}
use Rattle.graph.specs.Graph.{Graph, IsGraph, Step, Prescribes}
use Rattle.graph.specs.Fits.{FitsState, IsPrescribed}
use Rattle.items.specs.Held.{item_at, place}
use Rattle.items.specs.Once.{IsOnceEach, is_one_of}
use Rattle.instances.specs.declared.state.State.{State}
use Rattle.instances.specs.declared.state.State.TheVariants.{Ready, Running, Waiting, Done}
use Rattle.instances.specs.Known.{Known, inst_place, is_prescribed_by, prescribed_in, prescriber_at, state_at, tag_place}
use Rattle.instances.specs.Restored.{IsRestored as IsKnown, begins, first_state_in}
use Rattle.instances.specs.There.{AreThereTogether}
use Rattle.holdings.specs.declared.parts.Parts.{Parts}
use Rattle.holdings.specs.Holdings.{ArePartsOf, Holdings, IsFor, image_of}
use Rattle.holdings.specs.ImageLaws.{DoneTell, ImagesTell, TellsDone, TellsOf, TellsRest, is_fault, is_item}
use Rattle.holdings.specs.Listing.{items_of}
use Rattle.machine.specs.declared.memory.Memory.{Memory}
use Rattle.machine.specs.Memory.{AreListed, environment_of, facts_of, is_done, prescriber_of, waits_at}
use Rattle.machine.specs.Restored.{IsReadyOrDone}
use Rattle.machine.specs.Restoring.{IsRestored}
use Rattle.machine.proofs.Coming.{the_item}
use Rattle.machine.proofs.Sets.{same_truth}

and_both : (a b : Bool) → a ≡ true → b ≡ true → (a && b) ≡ true
and_both true b one two = two
and_both false b one two = one

not_waiting : (address : Addr) (o : Option State) → IsReadyOrDone o → waits_at address o ≡ false
not_waiting address None is = refl
not_waiting address (Some Ready) is = refl
not_waiting address (Some Running) is = absurd is
not_waiting address (Some (Waiting other)) is = absurd is
not_waiting address (Some Done) is = refl

begun : (b : Bool) → IsReadyOrDone (Some (cond b Done Ready))
begun true = tt
begun false = tt

done_told : (b : Bool) → is_done (Some (cond b Done Ready)) ≡ b
done_told true = refl
done_told false = refl

-- the producer of an item that is found among listed items has a number that a put may have
number_of : (es : List (Place × (ℤ × Producer))) (q : Place) (it : ℤ × Producer) → AllByRecursion HasPutNumber (items_of es) → find place_cmp q es ≡ Some it → IsNumbered it.1
number_of [] q it each there = absurd (cc)
number_of (e ∷ es) q it each there = at (number_of es q it each.1) (eq_by_cmp place_cmp q e.0) there
  where
    at : (find place_cmp q es ≡ Some it → IsNumbered it.1) → (t : Bool) → cond t (Some e.1) (find place_cmp q es) ≡ Some it → IsNumbered it.1
    at later true here = subst (λ (one : ℤ × Producer). IsNumbered one.1) (ap (λ o. unwrap_or o it) here) each.0
    at later false there = later there

-- an instance begins as the ended ones say, if its tag is there
first_or_none : (tags : Numbered Bool) (ended : FinMap place_cmp ⊤) (o : Option TagCollection) (i : Inst) → (first_state_in tags ended o i ≡ None) ⊎ (first_state_in tags ended o i ≡ Some (begins ended i))
first_or_none tags ended None i = inl refl
first_or_none tags ended (Some prescriber) i = at (get tags.items (prescriber.0, i.key))
  where
    at : (o : Option Bool) → (option_map (λ _. begins ended i) o ≡ None) ⊎ (option_map (λ _. begins ended i) o ≡ Some (begins ended i))
    at None = inl refl
    at (Some mark) = inr refl

module _ (told : OneFact) (maps : ImagesTell) (ends : DoneTell) (rest : (image : Image) → TellsRest image) (keys : IsTotalOrder key_cmp) (g : Graph) (is_graph : IsGraph g) (h : Holdings)
    (fits : FitsState g (environment_in (image_of h)) (facts_in (image_of h))) (listed : AllByRecursion HasPutNumber (image_of h).items) (is_for : IsFor g h) (parts : Parts) (are : ArePartsOf h parts) where
  abbrev image : Image
  image = image_of h

  tells : TellsOf image h.items h.tags
  tells = maps image h.items h.tags refl refl

  ended : TellsDone image h.done
  ended = ends image h.done refl

  module _ (collections : List TagCollection) (by_step : map (λ (t : TagCollection). t.0) collections ≡ map (λ (step : Step). step.prescriber) g.steps) (known : Known)
      (names : IsKnown parts.tags parts.done.items collections known) (there : AreThereTogether known) where
    abbrev m : Memory
    m = record { items = parts.items; instances = known; fault = parts.fault }

    prescribers : (number : ℕ) → prescriber_at m.instances number ≡ prescriber_of g number
    prescribers number =
        names.prescribers number ∙ sym (slice_get-map (λ (t : TagCollection). t.0) collections number) ∙ ap (λ (list : List ℕ). slice_get list number) by_step
        ∙ slice_get-map (λ (step : Step). step.prescriber) g.steps number

    is_kept : (name : Tag) (i : Inst) → Prescribes g name i → is_prescribed_by m.instances name i ≡ true
    is_kept name i it =
        ap (λ (o : Option ℕ). prescribed_in o name i.key) (prescribers i.collection.0 ∙ ap (option_map (λ (s : Step). s.prescriber)) it.is_step)
        ∙ and_both (it.step.prescriber == name.collection.0) (eq_by_cmp key_cmp i.key name.key) ((unsigned_Decides it.step.prescriber name.collection.0).1 it.prescriber)
        (subst (λ (k : List ℤ). eq_by_cmp key_cmp i.key k ≡ true) (sym it.key) (ap is_eq (tied_itself keys i.key)))

    tags_are : known.tags.items ≡ h.tags
    tags_are = ap (λ (t : Numbered Bool). t.items) names.tags ∙ are.tags

    tags : (name : Tag) → facts_in image (tag name) ≡ facts_of m (tag name)
    tags name = tells.of_tags name ∙ ap (λ held. is_some (get held (tag_place name))) (sym tags_are)

    -- an instance has no state, or its first one
    state : (i : Inst) → (state_at m.instances i ≡ None) ⊎ (state_at m.instances i ≡ Some (begins parts.done.items i))
    state i = subst (λ o. (o ≡ None) ⊎ (o ≡ Some (begins parts.done.items i))) (sym (names.states i)) (first_or_none parts.tags parts.done.items (slice_get collections i.collection.0) i)

    ready_or_done : (i : Inst) → IsReadyOrDone (state_at m.instances i)
    ready_or_done i = elim (state i) [
      | inl none ↦ subst IsReadyOrDone (sym none) tt
      | inr first ↦ subst IsReadyOrDone (sym first) (begun (is_some (get parts.done.items (inst_place i))))
    ]

    is_done_there : (i : Inst) → facts_in image (done i) ≡ true → is_some (state_at m.instances i) ≡ true
    is_done_there i is =
        let by = fits.done_are_prescribed i is in
        there.together by.0 i (is_kept by.0 i by.2) ∙ (sym (tags by.0) ∙ by.1)

    done_facts : (i : Inst) → facts_in image (done i) ≡ facts_of m (done i)
    done_facts i = elim (state i) [
      | inl none ↦ same_truth (facts_in image (done i)) (is_done (state_at m.instances i)) (λ is. absurd (false≢true (sym (ap is_some none) ∙ is_done_there i is))) (λ is. absurd (false≢true (sym (ap is_done none) ∙ is)))
      | inr first ↦ ended.of_done i ∙ ap (λ held. is_some (get held (inst_place i))) (sym are.done) ∙ sym (ap is_done first ∙ done_told (is_some (get parts.done.items (inst_place i))))
    ]

    facts : (fact : Fact) → facts_in image fact ≡ facts_of m fact
    facts (tag name) = tags name
    facts (item a v p) = tells.of_items a v p ∙ ap (λ held. is_item (get held (place a)) v p) (sym are.items)
    facts (done i) = done_facts i
    facts (bad i kind) = (rest image).of_fault i kind ∙ ap (λ f. is_fault f i kind) (sym are.fault)

    given : (fact : Fact) → environment_in image fact ≡ environment_of m fact
    given (tag name) = tells.given_tags name ∙ ap (λ held. unwrap_or (get held (tag_place name)) false) (sym tags_are)
    given (item a v Env) = tells.given_items a v ∙ ap (λ held. is_item (get held (place a)) v Env) (sym are.items)
    given (item a v (By i n)) = (rest image).given_by a v i n
    given (done i) = (rest image).given_done i
    given (bad i kind) = (rest image).given_fault i kind

    no_wait : {P : Type 0} (i : Inst) (a : Addr) → state_at m.instances i ≡ Some (Waiting a) → P
    no_wait i a is = absurd (subst IsReadyOrDone is (ready_or_done i))

    no_waiters : (a : Addr) → unwrap_or (get m.items.waiting (place a)) [] ≡ []
    no_waiters a = ap (λ w. unwrap_or (get w (place a)) []) are.waiting ∙ ap (λ (o : Option (List Inst)). unwrap_or o []) (get-empty place_cmp (place a))

    nobody_waits : AreListed m
    nobody_waits = record {
      listed = λ i a. ap (is_one_of i) (no_waiters a) ∙ sym (not_waiting a (state_at m.instances i) (ready_or_done i));
      once = λ a. subst IsOnceEach (sym (no_waiters a)) tt;
      absent = λ i a is. no_wait i a is;
    }

    numbered : (a : Addr) (v : ℤ) (i : Inst) (n : ℕ) → is_item (item_at parts.items a) v (By i n) ≡ true → n < MOST_PUTS
    numbered a v i n is =
        number_of (entries h.items) (place a) (v, By i n) listed
        (sym (get-entries h.items (place a)) ∙ ap (λ held. get held (place a)) (sym are.items) ∙ the_item told a (item_at parts.items a) v (By i n) is)

    fits_here : FitsState g (environment_of m) (facts_of m)
    fits_here =
        let same_facts : facts_in image ≡ facts_of m = λ i fact. facts fact i in
        let same_given : environment_in image ≡ environment_of m = λ i fact. given fact i in
        subst (λ (X : Facts). FitsState g (environment_of m) X) same_facts (subst (λ (E : Facts). FitsState g E (facts_in image)) same_given fits)

    unfinished_ready : (i : Inst) → IsPrescribed g (facts_of m) i → facts_of m (done i) ≡ false → state_at m.instances i ≡ Some Ready
    unfinished_ready i it not_done = at (state_at m.instances i) refl (ready_or_done i)
      where
        at : (o : Option State) → state_at m.instances i ≡ o → IsReadyOrDone o → o ≡ Some Ready
        at None here is = absurd (false≢true (ap is_some (sym here) ∙ there.together it.0 i (is_kept it.0 i it.2) ∙ it.1))
        at (Some Ready) here is = refl
        at (Some Running) here is = absurd is
        at (Some (Waiting a)) here is = absurd is
        at (Some Done) here is = absurd (false≢true (sym not_done ∙ ap is_done here))

    pub restored : IsRestored g image m
    restored = record {
      is_of = record {
        graph = is_graph;
        fits = fits_here;
        item_collections = are.item_collections ∙ ap (λ counts. counts.items) is_for;
        tag_collections = ap (λ (t : Numbered Bool). length t.room) names.tags ∙ are.tag_collections ∙ ap (λ counts. counts.tags) is_for;
        prescribers = prescribers;
        needs = λ i a is. no_wait i a is;
        listed = nobody_waits;
        numbered = numbered;
      };
      lists = record { facts = facts; environment = given };
      instances = ready_or_done;
      ready = unfinished_ready;
    }
