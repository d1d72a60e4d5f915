-- What a store of a graph holds before the first event.
use Rattle.std.proofs.Common.{◌≡◌, ◌∙◌, ap, sym, refl, subst, ℕ, ℤ, ◌+◌, Bool, true, false, List, [], ◌∷◌, ◌++◌, length, map, take, slice_get, Option, Some, None, is_some, option_map}
use Rattle.std.proofs.lemmas.Bool.{false≢true}
use Rattle.std.proofs.lemmas.List.{length-replicate, map-append, take_more}
use Rattle.std.proofs.lemmas.Option.{get_or_from_slice_get, slice_get-map, slice_get_within}
use Rattle.std.specs.Option.{unwrap_or}
use Rattle.std.specs.FinMap.{get, get-empty}
use Rattle.terms.specs.Key.{key_cmp}
use Rattle.terms.specs.declared.name.Addr.{Addr}
use Rattle.terms.specs.declared.name.Inst.{Inst}
use Rattle.terms.specs.declared.name.TagCollection.{TagCollection}
use Rattle.terms.specs.declared.producer.Producer.{Producer}
use Rattle.terms.specs.declared.producer.Producer.TheVariants.{Env, By}
use Rattle.terms.specs.Facts.{Fact, tag, item, done, bad}
use Rattle.maps.specs.Numbered.{place_cmp}
use Rattle.graph.specs.Graph.{Graph, Step, IsGraph}
use Rattle.items.specs.Held.{Held, no_items, place}
use Rattle.items.specs.Once.{IsOnceEach, is_one_of}
use Rattle.instances.specs.declared.step.Step.{Step as Prescribed}
use Rattle.instances.specs.declared.state.State.{State}
use Rattle.instances.specs.declared.state.State.TheVariants.{Waiting}
use Rattle.instances.specs.Known.{Known, fresh, fresh_step, prescriber_in, prescriber_at, state_at, state_in, tag_place}
use Rattle.machine.specs.declared.memory.Memory.{Memory}
use Rattle.holdings.specs.ImageLaws.{is_item}
use Rattle.machine.specs.Memory.{is_done, facts_of, environment_of, prescriber_of, waits_at, IsOf}
use Rattle.machine.specs.Creation.{HoldsNothing}

abbrev pub nothing : Graph → List TagCollection → Memory
nothing g prescribers = record { items = no_items (length g.items); instances = fresh (length g.tags) prescribers; fault = None }

no_fact : (X : Fact → Bool) → ((fact : Fact) → X fact ≡ false) → {P : Type 0} → (fact : Fact) → X fact ≡ true → P
no_fact X none fact is = absurd (false≢true (sym (none fact) ∙ is))

module _ (g : Graph) (prescribers : List TagCollection) where
  abbrev m : Memory
  m = nothing g prescribers

  step_at : (number : ℕ) → slice_get (map fresh_step prescribers) number ≡ option_map fresh_step (slice_get prescribers number)
  step_at number = slice_get-map fresh_step prescribers number

  no_state : (instance : Inst) → state_at m.instances instance ≡ None
  no_state instance = ap (λ (o : Option Prescribed). state_in o instance.key) (step_at instance.collection.0) ∙ none (slice_get prescribers instance.collection.0)
    where
      none : (o : Option TagCollection) → state_in (option_map fresh_step o) instance.key ≡ None
      none None = refl
      none (Some prescriber) = get-empty key_cmp instance.key

  no_item : (address : Addr) → get m.items.items.items (place address) ≡ None
  no_item address = get-empty place_cmp (place address)

  no_facts : (fact : Fact) → facts_of m fact ≡ false
  no_facts (tag name) = ap is_some (get-empty place_cmp (tag_place name))
  no_facts (item address value by) = ap (λ (o : Option (ℤ × Producer)). is_item o value by) (no_item address)
  no_facts (done instance) = ap is_done (no_state instance)
  no_facts (bad instance kind) = refl

  not_given : (fact : Fact) → environment_of m fact ≡ false
  not_given (tag name) = ap (λ (o : Option Bool). unwrap_or o false) (get-empty place_cmp (tag_place name))
  not_given (item address value Env) = ap (λ (o : Option (ℤ × Producer)). is_item o value Env) (no_item address)
  not_given (item address value (By instance number)) = refl
  not_given (done instance) = refl
  not_given (bad instance kind) = refl

  no_waiters : (address : Addr) → unwrap_or (get m.items.waiting (place address)) [] ≡ []
  no_waiters address = ap (λ (o : Option (List Inst)). unwrap_or o []) (get-empty place_cmp (place address))

  no_wait : {P : Type 0} → (instance : Inst) (state : State) → state_at m.instances instance ≡ Some state → P
  no_wait instance state is = absurd (false≢true (ap is_some (sym (no_state instance) ∙ is)))

  module _ (is_graph : IsGraph g) (by_step : map (λ (t : TagCollection). t.0) prescribers ≡ map (λ (step : Step). step.prescriber) g.steps) where
    by_number : (number : ℕ) → prescriber_at m.instances number ≡ prescriber_of g number
    by_number number =
        ap prescriber_in (step_at number) ∙ of_step (slice_get prescribers number) ∙ sym (slice_get-map (λ (t : TagCollection). t.0) prescribers number)
        ∙ ap (λ (list : List ℕ). slice_get list number) by_step ∙ slice_get-map (λ (step : Step). step.prescriber) g.steps number
      where
        of_step : (o : Option TagCollection) → prescriber_in (option_map fresh_step o) ≡ option_map (λ (t : TagCollection). t.0) o
        of_step None = refl
        of_step (Some prescriber) = refl

    is_of : IsOf g m
    is_of = record {
      graph = is_graph;
      fits = record {
        part = λ fact. no_fact (environment_of m) not_given fact;
        of_environment = λ fact. no_fact (environment_of m) not_given fact;
        items = λ address value. no_fact (facts_of m) no_facts (item address value Env);
        of_graph = λ fact. no_fact (facts_of m) no_facts fact;
        environment_items = λ address value. no_fact (facts_of m) no_facts (item address value Env);
        environment_tags = λ name. no_fact (environment_of m) not_given (tag name);
        done_are_prescribed = λ instance. no_fact (facts_of m) no_facts (done instance);
        producers_are_done = λ address value instance number. no_fact (facts_of m) no_facts (item address value (By instance number));
        fault = λ instance kind. no_fact (facts_of m) no_facts (bad instance kind);
        one_fault = λ i j k l is. no_fact (facts_of m) no_facts (bad i k) is;
      };
      item_collections = length-replicate (length g.items) 0;
      tag_collections = length-replicate (length g.tags) 0;
      prescribers = by_number;
      needs = λ instance address. no_wait instance (Waiting address);
      listed = record {
        listed = λ instance address. ap (is_one_of instance) (no_waiters address) ∙ sym (ap (waits_at address) (no_state instance));
        once = λ address. subst IsOnceEach (sym (no_waiters address)) tt;
        absent = λ instance address. no_wait instance (Waiting address);
      };
      numbered = λ address value instance number. no_fact (facts_of m) no_facts (item address value (By instance number));
    }

    pub holds_nothing : HoldsNothing g m
    holds_nothing = record { is_of = is_of; facts = no_facts; environment = not_given; instances = no_state }

-- ---- the prescribers of the steps

-- the prescriber of the next step comes after those of the steps before
pub one_more :
    (list : List TagCollection) (steps : List Step) (n : ℕ) (o : Option TagCollection) (it : TagCollection) → o ≡ Some it →
    option_map (λ (t : TagCollection). t.0) o ≡ option_map (λ (step : Step). step.prescriber) (slice_get steps n) →
    map (λ (t : TagCollection). t.0) list ≡ take n (map (λ (step : Step). step.prescriber) steps) →
    map (λ (t : TagCollection). t.0) (list ++ it ∷ []) ≡ take (n + 1) (map (λ (step : Step). step.prescriber) steps)
one_more list steps n o it is same so_far =
    let xs = map (λ (step : Step). step.prescriber) steps in
    let there : slice_get xs n ≡ Some it.0 =
    slice_get-map (λ (step : Step). step.prescriber) steps n ∙ sym same ∙ ap (option_map (λ (t : TagCollection). t.0)) is in
    map-append (λ (t : TagCollection). t.0) list (it ∷ []) ∙ ap (λ (front : List ℕ). front ++ it.0 ∷ []) so_far
    ∙ ap (λ (x : ℕ). take n xs ++ x ∷ []) (sym (get_or_from_slice_get xs n it.0 it.0 there))
    ∙ sym (take_more xs n it.0 (slice_get_within xs n it.0 there))

-- ---- what is made

pub begins :
    (g : Graph) (prescribers : List TagCollection) (items : Held) (known : Known) (n t : ℕ) → IsGraph g →
    map (λ (p : TagCollection). p.0) prescribers ≡ map (λ (step : Step). step.prescriber) g.steps →
    items ≡ no_items n → n ≡ length g.items → known ≡ fresh t prescribers → t ≡ length g.tags → HoldsNothing g (record { items = items; instances = known; fault = None })
begins g prescribers items known n t is_graph by_step items_are n_is known_is t_is =
    subst (λ (held : Held). HoldsNothing g (record { items = held; instances = known; fault = None })) (sym (items_are ∙ ap no_items n_is))
    (subst (λ (k : Known). HoldsNothing g (record { items = no_items (length g.items); instances = k; fault = None }))
    (sym (known_is ∙ ap (λ (count : ℕ). fresh count prescribers) t_is))
    (holds_nothing g prescribers is_graph by_step))
