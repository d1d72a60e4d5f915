-- The laws of states, derived from those of lists.
use Rattle.std.proofs.Common.{◌≡◌, ◌⊎◌, ◌↔◌, ℤ, Bool, true, false, ◌||◌, List, [], ◌∷◌, ◌++◌, refl, sym, ap, subst, ◌∙◌}
use Rattle.std.specs.List.{AllByRecursion}
use Rattle.std.proofs.lemmas.List.{append-nil}
use Rattle.terms.specs.declared.name.Addr.{Addr}
use Rattle.terms.specs.declared.name.Inst.{Inst}
use Rattle.terms.specs.declared.fault.FaultKind.{FaultKind}
use Rattle.terms.specs.declared.producer.Producer.{Producer}
use Rattle.terms.specs.declared.put.Put.{Put}
use Rattle.terms.specs.declared.event.Event.{Event}
use Rattle.terms.specs.declared.event.Event.TheVariants.{Done, Stopped}
use Rattle.terms.specs.Facts.{Fact, tag, item, done, bad, facts, environment, event_facts, environment_facts, FactsGoOn, EnvironmentGoesOn}
use Rattle.terms.specs.Sets.{Facts, among, with_facts, stated, put_by_environment, OneFact, AmongBoth}
use Rattle.steptree.specs.Run.{Read}
use Rattle.steptree.specs.Bodies.{Ending, Asks}
use Rattle.steptree.specs.Laws.{LookUpEndsOnce, LookUpEnds}
use Rattle.graph.specs.Graph.{Graph, BodyMeans}
use Rattle.graph.specs.Fits.{IsPrescribed, HasNoFault, HasOneItemEach}
use Rattle.machine.specs.Meaning.{items, Meaning, IsClean}
use Rattle.machine.specs.Legal.{IsLegal, AreLegal, Needs, IsBlocked, IsQuiet}
use Rattle.machine.specs.State.{IsReached, AreLegalFrom, IsMeaning, Waits, items_meant, IsUnfinished}
use Rattle.machine.proofs.Sets.{not_both, same_truth}
use Rattle.machine.proofs.Within.{kept_from_nothing, stays_within, goes_on}
use Rattle.machine.proofs.Grown.{one_ending}
use Rattle.machine.proofs.Quiet.{quiet_is_meaning, quiet_is_clean}
use Rattle.machine.proofs.GoesOn.{can_go_on}

-- ---- sets

stated_is : (g : Graph) (E X : Facts) → (it : IsReached g E X) → stated it.events ≡ X
stated_is g E X it = λ i fact. it.facts fact i

environment_is : (g : Graph) (E X : Facts) → (it : IsReached g E X) → put_by_environment it.events ≡ E
environment_is g E X it = λ i fact. it.environment fact i

pub nothing_is_reached : (g : Graph) → IsReached g (among []) (among [])
nothing_is_reached g = record { events = []; legal = tt; facts = λ fact. refl; environment = λ fact. refl }

-- ---- bodies over other pairs

each_read : (some more : Addr → ℤ → Type 0) → ((address : Addr) (value : ℤ) → some address value → more address value)
    → (reads : List Read) → AllByRecursion (λ (read : Read). some read.0 read.1) reads → AllByRecursion (λ (read : Read). more read.0 read.1) reads
each_read some more grows [] all = tt
each_read some more grows (read ∷ reads) all = (grows read.0 read.1 all.0, each_read some more grows reads all.1)

asks_over : (g : Graph) (instance : Inst) (address : Addr) (some more : Addr → ℤ → Type 0) → ((a : Addr) (value : ℤ) → some a value → more a value)
    → ((value : ℤ) → more address value → ⊥) → BodyMeans g instance some (Asks address) → BodyMeans g instance more (Asks address)
asks_over g instance address some more grows absent means = record {
  step = means.step;
  is_step = means.is_step;
  means = record {
    reads = means.means.reads;
    among = each_read some more grows means.means.reads means.means.among;
    along = means.means.along;
    needs = λ a asks value there. absent value (subst (λ (at : Addr). more at value) (same_address a asks) there);
  };
}
  where
    same_address : (a : Addr) → Asks address ≡ Asks a → a ≡ address
    same_address a asks = cc

pub needs_stays : (g : Graph) (X Y : Facts) (instance : Inst) (address : Addr) → ((fact : Fact) → X fact ≡ true → Y fact ≡ true)
    → ((value : ℤ) (by : Producer) → Y (item address value by) ≡ false) → Needs g X instance address → Needs g Y instance address
needs_stays g X Y instance address within absent needs =
    asks_over g instance address (items X) (items Y) (λ a value there. (there.0, within (item a value there.0) there.1))
    (λ value there. not_both (Y (item address value there.0)) there.1 (absent value there.0)) needs

pub one_meaning_each : (g : Graph) (E X Y : Facts) → IsMeaning g E X → IsMeaning g E Y → (fact : Fact) → X fact ≡ Y fact
one_meaning_each g E X Y one two fact = same_truth (X fact) (Y fact) (λ there. (two fact).1 ((one fact).0 there)) (λ there. (one fact).1 ((two fact).0 there))

module _ (told : OneFact) (both : AmongBoth) where
  -- ---- lists and sets

  grown : (before more : List Fact) → among (before ++ more) ≡ with_facts (among before) more
  grown before more = λ i fact. both before more fact i

  from_list : (g : Graph) (before : List Fact) (events : List Event) → AreLegal g before events → AreLegalFrom g (among before) events
  from_list g before [] legal = tt
  from_list g before (event ∷ events) legal =
      (legal.0, subst (λ (X : Facts). AreLegalFrom g X events) (grown before (event_facts event)) (from_list g (before ++ event_facts event) events legal.1))

  to_list : (g : Graph) (before : List Fact) (events : List Event) → AreLegalFrom g (among before) events → AreLegal g before events
  to_list g before [] legal = tt
  to_list g before (event ∷ events) legal =
      (legal.0, to_list g (before ++ event_facts event) events (subst (λ (X : Facts). AreLegalFrom g X events) (sym (grown before (event_facts event))) legal.1))

  pub legal_as_set : (g : Graph) (before : List Fact) (events : List Event) → AreLegal g before events ↔ AreLegalFrom g (among before) events
  legal_as_set g before events = (from_list g before events, to_list g before events)

  pub reached_goes_on : FactsGoOn → EnvironmentGoesOn → (g : Graph) (E X : Facts) (events : List Event) → IsReached g E X → AreLegalFrom g X events
      → IsReached g (with_facts E (environment events)) (with_facts X (facts events))
  reached_goes_on all given g E X events it from = record {
    events = it.events ++ events;
    legal = goes_on told both g [] it.events events it.legal (to_list g (facts it.events) events (subst (λ (Y : Facts). AreLegalFrom g Y events) (sym (stated_is g E X it)) from));
    facts = λ fact.
        ap (λ (list : List Fact). among list fact) (all it.events events) ∙ both (facts it.events) (facts events) fact
        ∙ ap (λ (there : Bool). there || among (facts events) fact) (it.facts fact);
    environment = λ fact.
        ap (λ (list : List Fact). among list fact) (given it.events events) ∙ both (environment it.events) (environment events) fact
        ∙ ap (λ (there : Bool). there || among (environment events) fact) (it.environment fact);
  }

  pub reached_takes : FactsGoOn → EnvironmentGoesOn → (g : Graph) (E X : Facts) (event : Event) → IsReached g E X → IsLegal g X event
      → IsReached g (with_facts E (environment_facts event)) (with_facts X (event_facts event))
  reached_takes all given g E X event it legal =
      subst (λ (list : List Fact). IsReached g (with_facts E list) (with_facts X (event_facts event))) (append-nil (environment_facts event))
      (subst (λ (list : List Fact). IsReached g (with_facts E (environment (event ∷ []))) (with_facts X list)) (append-nil (event_facts event)) (reached_goes_on all given g E X (event ∷ []) it (legal, tt)))

  -- ---- the meaning

  pub reached_is_within : (g : Graph) (E X : Facts) → IsReached g E X → (fact : Fact) → X fact ≡ true → Meaning g E fact
  reached_is_within g E X it fact there =
      subst (λ (F : Facts). Meaning g F fact) (environment_is g E X it) (stays_within told both g it.events it.legal fact (it.facts fact ∙ there))

  pub reached_has_one_item : (g : Graph) (E X : Facts) → IsReached g E X → HasOneItemEach X
  reached_has_one_item g E X it = subst HasOneItemEach (stated_is g E X it) (kept_from_nothing told both g it.events it.legal).one_item

  module _ (once : LookUpEndsOnce) where
    pub reached_is_meaning : (g : Graph) (E X : Facts) → IsReached g E X → IsQuiet g X → IsMeaning g E X × IsClean g E
    reached_is_meaning g E X it quiet =
        let still = subst (IsQuiet g) (sym (stated_is g E X it)) quiet in (
          λ fact. (
            reached_is_within g E X it fact,
            λ meant. sym (it.facts fact) ∙ quiet_is_meaning told both once g it.events it.legal still fact (subst (λ (F : Facts). Meaning g F fact) (sym (environment_is g E X it)) meant),
          ),
          subst (IsClean g) (environment_is g E X it) (quiet_is_clean told both once g it.events it.legal still),
        )

    pub reached_stopped_or_quiet : (g : Graph) (E X Y : Facts) (instance : Inst) (kind : FaultKind) → IsReached g E X → X (bad instance kind) ≡ true → IsReached g E Y → IsQuiet g Y → ⊥
    reached_stopped_or_quiet g E X Y instance kind one fault two quiet =
        not_both (Y (bad instance kind)) (((reached_is_meaning g E Y two quiet).0 (bad instance kind)).1 (reached_is_within g E X one (bad instance kind) fault)) (quiet.no_fault instance kind)

    -- over the items of a reached state a body ends in one way
    pub reached_one_ending : (g : Graph) (E X : Facts) → IsReached g E X → (instance : Inst) (one two : Ending) → BodyMeans g instance (items X) one → BodyMeans g instance (items X) two → one ≡ two
    reached_one_ending g E X it instance one two =
        subst (λ (F : Facts). BodyMeans g instance (items F) one → BodyMeans g instance (items F) two → one ≡ two) (stated_is g E X it)
        (one_ending told (facts it.events) (kept_from_nothing told both g it.events it.legal).one_item once g instance one two)

    -- ---- waiting instances

    pub quiet_waits : (g : Graph) (E X : Facts) → IsReached g E X → IsQuiet g X → (instance : Inst) (address : Addr) → Waits g X instance address ↔ IsUnfinished g E instance address
    quiet_waits g E X it quiet instance address = (
      λ waits. record {
        name = waits.prescribed.0;
        name_is_meant = (means (tag waits.prescribed.0)).0 waits.prescribed.1;
        prescribes = waits.prescribed.2;
        not_done = λ meant. not_both (X (done instance)) ((means (done instance)).1 meant) waits.not_done;
        needs = asks_over g instance address (items X) (items_meant g E) to_meant (λ value there. absent_here waits.needs value (from_meant address value there)) waits.needs;
      },
      λ unfinished. record {
        prescribed = (unfinished.name, (means (tag unfinished.name)).1 unfinished.name_is_meant, unfinished.prescribes);
        not_done = not_there (X (done instance)) (λ there. unfinished.not_done ((means (done instance)).0 there));
        needs = asks_over g instance address (items_meant g E) (items X) from_meant (λ value there. unfinished.needs.means.needs address refl value (to_meant address value there)) unfinished.needs;
      },
    )
      where
        means : IsMeaning g E X
        means = (reached_is_meaning g E X it quiet).0

        to_meant : (a : Addr) (value : ℤ) → items X a value → items_meant g E a value
        to_meant a value there = (there.0, (means (item a value there.0)).0 there.1)

        from_meant : (a : Addr) (value : ℤ) → items_meant g E a value → items X a value
        from_meant a value there = (there.0, (means (item a value there.0)).1 there.1)

        absent_here : Needs g X instance address → (value : ℤ) → items X address value → ⊥
        absent_here needs value there = needs.means.needs address refl value there

        not_there : (b : Bool) → (b ≡ true → ⊥) → b ≡ false
        not_there true none = absurd (none refl)
        not_there false none = refl

  pub reached_can_go_on : LookUpEnds → (g : Graph) (E X : Facts) (instance : Inst) → IsReached g E X → HasNoFault X → IsPrescribed g X instance → X (done instance) ≡ false
      → IsBlocked g X instance ⊎ ((puts : List Put) × IsLegal g X (Done instance puts)) ⊎ ((kind : FaultKind) × IsLegal g X (Stopped instance kind))
  reached_can_go_on ends g E X instance it =
      subst (λ (Y : Facts). HasNoFault Y → IsPrescribed g Y instance → Y (done instance) ≡ false
      → IsBlocked g Y instance ⊎ ((puts : List Put) × IsLegal g Y (Done instance puts)) ⊎ ((kind : FaultKind) × IsLegal g Y (Stopped instance kind)))
      (stated_is g E X it) (can_go_on told both ends g it.events instance it.legal)
