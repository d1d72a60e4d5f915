-- After an event that fits, the state still fits; events that fit one after another, in two parts; how facts are listed does not matter.
use Rattle.std.proofs.Common.{◌≡◌, ◌⊎◌, Bool, true, ◌||◌, List, [], ◌∷◌, inl, inr, subst, arith, ℕ, suc, false, ◌++◌, refl, sym, ◌∙◌, ap}
use Rattle.std.specs.List.{AllByRecursion}
use Rattle.std.proofs.lemmas.Bool.{false≢true}
use Rattle.terms.specs.Facts.{Fact, tag, item, done, bad, facts, environment, event_facts, environment_facts, put_facts}
use Rattle.terms.specs.Sets.{Facts, is_fact, among, OneFact, with_facts, AmongBoth}
use Rattle.std.proofs.lemmas.List.{append_assoc, append-nil}
use Rattle.terms.specs.declared.name.Inst.{Inst}
use Rattle.terms.specs.declared.fault.FaultKind.{FaultKind}
use Rattle.terms.specs.declared.producer.Producer.TheVariants.{Env, By}
use Rattle.terms.specs.declared.put.Put.{Put}
use Rattle.terms.specs.declared.put.Put.TheVariants as put
use Rattle.terms.specs.declared.event.Event.{Event}
use Rattle.terms.specs.declared.event.Event.TheVariants.{EnvItem, EnvTag, Done, Stopped}
use Rattle.graph.specs.Graph.{Graph, EnvironmentMayPutItem, EnvironmentMayPutTag}
use Rattle.graph.specs.Fits.{IsPrescribed, AddressIsOf, TagIsOf, InstanceIsOf, PutIsOf, MayEnd, Fits, AllFit, FactIsOf, IsOfEnvironment, FitsState, FitAfter}
use Rattle.std.specs.Prelude.{◌↔◌}
use Rattle.graph.specs.FitLaws.{SameSet}

pub either : (a b : Bool) → (a || b) ≡ true → (a ≡ true) ⊎ (b ≡ true)
either a b holds = grind arith

pub or_left : (a b : Bool) → a ≡ true → (a || b) ≡ true
or_left a b holds = cc

pub or_right : (a b : Bool) → b ≡ true → (a || b) ≡ true
or_right a b holds = grind arith

-- each fact of the first set is in the second
abbrev pub Within : Facts → Facts → Type 0
Within X Y = (fact : Fact) → X fact ≡ true → Y fact ≡ true

module _ (told : OneFact) where
  pub the_first : (first : Fact) (rest : List Fact) → among (first ∷ rest) first ≡ true
  the_first first rest = or_left (is_fact first first) (among rest first) (told first first).0

  -- what holds of each fact of a list holds of every fact among them
  pub each_among : (P : Fact → Type 0) (list : List Fact) → AllByRecursion P list → (fact : Fact) → among list fact ≡ true → P fact
  each_among P [] all fact there = absurd (false≢true there)
  each_among P (first ∷ rest) all fact there =
      elim (either (is_fact first fact) (among rest fact) there) [ inl same ↦ subst P ((told first fact).1 same) all.0 | inr later ↦ each_among P rest all.1 fact later ]

-- what the graph and the facts before it say of a fact that an event states
abbrev IsStated : Graph → Facts → Event → Fact → Type 0
IsStated g X event (tag name) = TagIsOf g name
IsStated g X event (item address value Env) = EnvironmentMayPutItem g address × (among (environment_facts event) (item address value Env) ≡ true)
IsStated g X event (item address value (By instance number)) = AddressIsOf g address × (among (event_facts event) (done instance) ≡ true)
IsStated g X event (done instance) = InstanceIsOf g instance × IsPrescribed g X instance
IsStated g X event (bad instance kind) = MayEnd g X instance × (event ≡ Stopped instance kind)

-- what the graph says of a fact that the environment put by the event
abbrev IsGiven : Graph → Event → Fact → Type 0
IsGiven g event (tag name) = EnvironmentMayPutTag g name × (among (event_facts event) (tag name) ≡ true)
IsGiven g event (item address value Env) = among (event_facts event) (item address value Env) ≡ true
IsGiven g event fact = ⊥

stated_is_of : (g : Graph) (X : Facts) (event : Event) (fact : Fact) → IsStated g X event fact → FactIsOf g fact
stated_is_of g X event (tag name) it = it
stated_is_of g X event (item address value Env) it = it.0.0
stated_is_of g X event (item address value (By instance number)) it = it.0
stated_is_of g X event (done instance) it = it.0
stated_is_of g X event (bad instance kind) it = it.0.of_graph

given_is : (g : Graph) (event : Event) (fact : Fact) → IsGiven g event fact → (among (event_facts event) fact ≡ true) × IsOfEnvironment fact
given_is g event (tag name) it = (it.1, tt)
given_is g event (item address value Env) it = (it, tt)
given_is _ _ _ it = absurd (assumption)

prescribed_within : (g : Graph) (X Y : Facts) → Within X Y → (instance : Inst) → IsPrescribed g X instance → IsPrescribed g Y instance
prescribed_within g X Y within instance it = (it.0, within (tag it.0) it.1, it.2)

module _ (told : OneFact) (g : Graph) (X : Facts) where
  puts_are_stated : (instance : Inst) (all : List Put) (number : ℕ) (puts : List Put) → AllByRecursion (PutIsOf g) puts → AllByRecursion (IsStated g X (Done instance all)) (put_facts instance number puts)
  puts_are_stated instance all number [] of_graph = tt
  puts_are_stated instance all number (put.Item address value ∷ puts) of_graph =
      ((of_graph.0, the_first told (done instance) (put_facts instance 0 all)), puts_are_stated instance all (suc number) puts of_graph.1)
  puts_are_stated instance all number (put.Tag name ∷ puts) of_graph = (of_graph.0, puts_are_stated instance all (suc number) puts of_graph.1)

  each_stated : (event : Event) → Fits g X event → AllByRecursion (IsStated g X event) (event_facts event)
  each_stated (EnvItem address value) fits = ((fits.event_fits.0, the_first told (item address value Env) []), tt)
  each_stated (EnvTag name) fits = (fits.event_fits.0.0, tt)
  each_stated (Done instance puts) fits = ((fits.event_fits.0.of_graph, fits.event_fits.0.prescribed), puts_are_stated instance puts 0 puts fits.event_fits.1)
  each_stated (Stopped instance kind) fits = ((fits.event_fits, refl), tt)

  each_given : (event : Event) → Fits g X event → AllByRecursion (IsGiven g event) (environment_facts event)
  each_given (EnvItem address value) fits = (the_first told (item address value Env) [], tt)
  each_given (EnvTag name) fits = ((fits.event_fits.0, the_first told (tag name) []), tt)
  each_given (Done instance puts) fits = tt
  each_given (Stopped instance kind) fits = tt

one_stop : (event : Event) (i j : Inst) (k l : FaultKind) → event ≡ Stopped i k → event ≡ Stopped j l → (i ≡ j) × (k ≡ l)
one_stop event i j k l one two = (cc, cc)

stop_ends_none : (event : Event) (instance : Inst) (kind : FaultKind) → event ≡ Stopped instance kind → among (event_facts event) (done instance) ≡ false
stop_ends_none event instance kind same = subst (λ (it : Event). among (event_facts it) (done instance) ≡ false) (sym same) refl

-- what follows from each fact of a set and from each fact added to it
by_each : {A : Type 0} (X : Facts) (more : List Fact) (fact : Fact) → (X fact ≡ true → A) → (among more fact ≡ true → A) → with_facts X more fact ≡ true → A
by_each {A} X more fact first second there = elim (either (X fact) (among more fact) there) [ inl it ↦ first it | inr it ↦ second it ]

module _ (told : OneFact) (g : Graph) (E X : Facts) (event : Event) (state : FitsState g E X) (fits : Fits g X event) where
  abbrev Y : Facts
  Y = with_facts X (event_facts event)

  old : Within X Y
  old fact there = or_left (X fact) (among (event_facts event) fact) there

  new : Within (among (event_facts event)) Y
  new fact there = or_right (X fact) (among (event_facts event) fact) there

  not_before : {A : Type 0} (instance : Inst) (kind : FaultKind) → X (bad instance kind) ≡ true → A
  not_before instance kind there = absurd (false≢true (sym (fits.working instance kind) ∙ there))

  by_event : {A : Type 0} (fact : Fact) → (X fact ≡ true → A) → (IsStated g X event fact → A) → Y fact ≡ true → A
  by_event fact first second = by_each X (event_facts event) fact first (λ it. second (each_among told (IsStated g X event) (event_facts event) (each_stated told g X event fits) fact it))

  by_given : {A : Type 0} (fact : Fact) → (E fact ≡ true → A) → (IsGiven g event fact → A) → with_facts E (environment_facts event) fact ≡ true → A
  by_given fact first second = by_each E (environment_facts event) fact first (λ it. second (each_among told (IsGiven g event) (environment_facts event) (each_given told g X event fits) fact it))

  pub state_keeps : FitsState g (with_facts E (environment_facts event)) Y
  state_keeps = record {
    part = λ fact. by_given fact (λ it. old fact (state.part fact it)) (λ it. new fact ((given_is g event fact it).0));
    of_environment = λ fact. by_given fact (state.of_environment fact) (λ it. (given_is g event fact it).1);
    items = λ address value. by_event (item address value Env)
        (λ it. or_left (E (item address value Env)) (among (environment_facts event) (item address value Env)) (state.items address value it))
        (λ it. or_right (E (item address value Env)) (among (environment_facts event) (item address value Env)) it.1);
    of_graph = λ fact. by_event fact (state.of_graph fact) (stated_is_of g X event fact);
    environment_items = λ address value. by_event (item address value Env) (state.environment_items address value) (λ it. it.0);
    environment_tags = λ name. by_given (tag name) (state.environment_tags name) (λ it. it.0);
    done_are_prescribed = λ instance there. prescribed_within g X Y old instance (by_event (done instance) (state.done_are_prescribed instance) (λ it. it.1) there);
    producers_are_done = λ address value instance number. by_event (item address value (By instance number))
        (λ it. old (done instance) (state.producers_are_done address value instance number it))
        (λ it. new (done instance) it.1);
    fault = λ instance kind. by_event (bad instance kind) (not_before instance kind)
        (λ it. (prescribed_within g X Y old instance it.0.prescribed, neither (X (done instance)) (among (event_facts event) (done instance)) it.0.not_done (stop_ends_none event instance kind it.1)));
    one_fault = λ i j k l one two. by_event (bad i k) (not_before i k)
        (λ it. by_event (bad j l) (not_before j l) (λ other. one_stop event i j k l it.1 other.1) two) one;
  }
    where
      neither : (a b : Bool) → a ≡ false → b ≡ false → (a || b) ≡ false
      neither a b no_ none = cc

module _ (told : OneFact) (both : AmongBoth) (g : Graph) where
  -- the same for lists
  pub fit_keeps : (given before : List Fact) (event : Event) → FitsState g (among given) (among before) → Fits g (among before) event
      → FitsState g (among (given ++ environment_facts event)) (among (before ++ event_facts event))
  fit_keeps given before event state fits =
      subst (λ (X : Facts). FitsState g X (among (before ++ event_facts event))) (λ i fact. sym (both given (environment_facts event) fact) i)
      (subst (λ (X : Facts). FitsState g (with_facts (among given) (environment_facts event)) X) (λ i fact. sym (both before (event_facts event) fact) i)
      (state_keeps told g (among given) (among before) event state fits))

  pub all_fit_keep : (given before : List Fact) (events : List Event) → FitsState g (among given) (among before) → AllFit g before events
      → FitsState g (among (given ++ environment events)) (among (before ++ facts events))
  all_fit_keep given before [] state all =
      subst (λ (list : List Fact). FitsState g (among list) (among (before ++ []))) (sym (append-nil given))
      (subst (λ (list : List Fact). FitsState g (among given) (among list)) (sym (append-nil before)) state)
  all_fit_keep given before (event ∷ events) state all =
      let rest = all_fit_keep (given ++ environment_facts event) (before ++ event_facts event) events (fit_keeps given before event state all.0) all.1 in
      subst (λ (list : List Fact). FitsState g (among list) (among (before ++ facts (event ∷ events)))) (append_assoc given (environment_facts event) (environment events))
      (subst (λ (list : List Fact). FitsState g (among ((given ++ environment_facts event) ++ environment events)) (among list)) (append_assoc before (event_facts event) (facts events)) rest)

parts : (g : Graph) (before : List Fact) (one two : List Event) → AllFit g before (one ++ two) → AllFit g before one × AllFit g (before ++ facts one) two
parts g before [] two all = (tt, subst (λ (list : List Fact). AllFit g list two) (sym (append-nil before)) all)
parts g before (event ∷ one) two all =
    let rest = parts g (before ++ event_facts event) one two all.1 in
    ((all.0, rest.0), subst (λ (list : List Fact). AllFit g list two) (append_assoc before (event_facts event) (facts one)) rest.1)

joined : (g : Graph) (before : List Fact) (one two : List Event) → AllFit g before one → AllFit g (before ++ facts one) two → AllFit g before (one ++ two)
joined g before [] two first second = subst (λ (list : List Fact). AllFit g list two) (append-nil before) second
joined g before (event ∷ one) two first second =
    (first.0, joined g (before ++ event_facts event) one two first.1 (subst (λ (list : List Fact). AllFit g list two) (sym (append_assoc before (event_facts event) (facts one))) second))

pub in_parts : (g : Graph) (before : List Fact) (one two : List Event) → AllFit g before (one ++ two) ↔ (AllFit g before one × AllFit g (before ++ facts one) two)
in_parts g before one two = (parts g before one two, λ both. joined g before one two both.0 both.1)

-- ---- as sets

pub event_as_set : (g : Graph) (X Y : Facts) (event : Event) → SameSet X Y → Fits g X event → Fits g Y event
event_as_set g X Y event same fits = subst (λ (Z : Facts). Fits g Z event) (λ i fact. same fact i) fits

pub events_as_set : AmongBoth → (g : Graph) (before other : List Fact) (events : List Event) → SameSet (among before) (among other) → AllFit g before events → AllFit g other events
events_as_set both g before other [] same all = tt
events_as_set both g before other (event ∷ events) same all = (
  event_as_set g (among before) (among other) event same all.0,
  events_as_set both g (before ++ event_facts event) (other ++ event_facts event) events
      (λ fact. both before (event_facts event) fact ∙ ap (λ (b : Bool). b || among (event_facts event) fact) (same fact) ∙ sym (both other (event_facts event) fact)) all.1,
)

pub fit_as_listed : AmongBoth → (g : Graph) (X : Facts) (before : List Fact) (events : List Event) → SameSet X (among before) → FitAfter g X events → AllFit g before events
fit_as_listed both g X before [] same fits = tt
fit_as_listed both g X before (event ∷ events) same fits = (
  event_as_set g X (among before) event same fits.0,
  fit_as_listed both g (with_facts X (event_facts event)) (before ++ event_facts event) events
      (λ fact. ap (λ (b : Bool). b || among (event_facts event) fact) (same fact) ∙ sym (both before (event_facts event) fact)) fits.1,
)
