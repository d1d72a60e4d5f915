-- If legal events lead to a store, and nothing is left to replay, all of it is marked but its fault.
use Rattle.std.proofs.Common.{◌≡◌, ◌⊎◌, ◌∙◌, Bool, true, false, List, [], ◌∷◌, ◌++◌, inl, inr, refl, sym, subst}
use Rattle.std.proofs.lemmas.Bool.{false≢true}
use Rattle.std.proofs.lemmas.List.{append_assoc, append-nil}
use Rattle.terms.specs.declared.name.Inst.{Inst}
use Rattle.terms.specs.declared.fault.FaultKind.{FaultKind}
use Rattle.terms.specs.declared.producer.Producer.TheVariants.{Env}
use Rattle.terms.specs.declared.put.Put.{Put}
use Rattle.terms.specs.declared.event.Event.{Event}
use Rattle.terms.specs.declared.event.Event.TheVariants.{EnvItem, EnvTag, Done, Stopped}
use Rattle.terms.specs.Facts.{Fact, IsDone, tag, item, done, bad, facts as facts_in, environment as environment_in, put_facts, event_facts, environment_facts}
use Rattle.terms.specs.Sets.{Facts, OneFact, AmongBoth, among}
use Rattle.steptree.specs.Bodies.{Ending, Gives}
use Rattle.steptree.specs.Laws.{LookUpEndsOnce}
use Rattle.graph.specs.Graph.{BodyMeans, Graph}
use Rattle.graph.specs.Fits.{HasNoFault, IsPrescribed}
use Rattle.machine.specs.Legal.{AreLegal, Conflicts, IsAtFault, IsLegal}
use Rattle.machine.specs.Machine.{IsPut, Machine, environment, facts}
use Rattle.machine.specs.Marked.{Marks, marked}
use Rattle.machine.specs.Meaning.{BodyGives, items}
use Rattle.machine.specs.Promise.{IsKept}
use Rattle.machine.specs.State.{IsReached}
use Rattle.machine.proofs.Grown.{faults_within, gives_within, prescribed_within}
use Rattle.machine.proofs.Kept.{Gave, only}
use Rattle.machine.proofs.Reached.{reached_one_ending}
use Rattle.machine.proofs.Sets.{Within, given_is_stated, in_one, in_two, of_both, of_list, the_first}
use Rattle.machine.proofs.Within.{kept_from_nothing}
use Rattle.audit.specs.Replayed.{AreStuck, IsReplayed}
use Rattle.audit.proofs.Stated.{IsSound, each_of_all, sound_put}

-- a set without faults that has each fact of another one which is no fault has all of it
pub all_within : (X Y : Facts) → HasNoFault X → ((fact : Fact) → IsSound fact → X fact ≡ true → Y fact ≡ true) → Within X Y
all_within X Y none sound (tag name) there = sound (tag name) tt there
all_within X Y none sound (item address value by) there = sound (item address value by) tt there
all_within X Y none sound (done instance) there = sound (done instance) tt there
all_within X Y none sound (bad instance kind) there = absurd (false≢true (sym (none instance kind) ∙ there))

module _ (told : OneFact) (both : AmongBoth) (once : LookUpEndsOnce) (store : Machine) (m : Marks) (replayed : IsReplayed store m) (stuck : AreStuck store m) (kept : IsKept store) (it : IsReached store.graph (environment store) (facts store)) where
  abbrev g : Graph
  g = store.graph

  abbrev Y : Facts
  Y = marked m

  -- what is marked as done gave its puts there
  gave : (instance : Inst) → Y (done instance) ≡ true → Gave g Y instance
  gave instance there =
      subst (λ (X : Facts). Gave g X instance) (λ i fact. replayed.reached.facts fact i)
      ((kept_from_nothing told both g replayed.reached.events replayed.reached.legal).gave instance (replayed.reached.facts (done instance) ∙ there))

  unique : (instance : Inst) (one two : Ending) → BodyMeans g instance (items Y) one → BodyMeans g instance (items Y) two → one ≡ two
  unique instance one two = reached_one_ending told both once g (environment store) Y replayed.reached instance one two

  same_puts : (one two : List Put) → Gives one ≡ Gives two → one ≡ two
  same_puts one two same = cc

  -- an instance that may end is marked
  is_done : (instance : Inst) (puts : List Put) → facts store (done instance) ≡ true → IsPrescribed g Y instance → BodyGives g Y instance puts → Y (done instance) ≡ true
  is_done instance puts of_store prescribed gives = at (Y (done instance)) refl
    where
      at : (b : Bool) → Y (done instance) ≡ b → Y (done instance) ≡ true
      at true is = is
      at false is = absurd (stuck instance of_store is puts prescribed gives it)

  -- what the environment put is marked
  there_given : (fact : Fact) → environment store fact ≡ true → Y fact ≡ true
  there_given fact there = sym (replayed.reached.facts fact) ∙ given_is_stated both replayed.reached.events fact (replayed.reached.environment fact ∙ there)

  -- what a legal event states was replayed, if what came before it was
  event_there : (before : List Fact) (event : Event) → IsLegal g (among before) event → Within (among before) Y → Within (among (environment_facts event)) (environment store) → Within (among (event_facts event)) (facts store)
      → (fact : Fact) → IsSound fact → among (event_facts event) fact ≡ true → Y fact ≡ true
  event_there before (EnvItem address value) legal within given of_store fact sound there = there_given fact (given fact there)
  event_there before (EnvTag name) legal within given of_store fact sound there = there_given fact (given fact there)
  event_there before (Stopped instance kind) legal within given of_store fact sound there = absurd (subst IsSound (sym (only told both (bad instance kind) fact there)) sound)
  event_there before (Done instance puts) legal within given of_store fact sound there =
      let parts = legal.event_is_legal in
      let gives = gives_within g (among before) Y within instance puts parts.2 in
      let over = is_done instance puts (of_store (done instance) (the_first told (done instance) (put_facts instance 0 puts))) (prescribed_within g (among before) Y within instance parts.0) gives in
      let own = gave instance over in
      let same = same_puts own.puts puts (unique instance (Gives own.puts) (Gives puts) own.gives gives) in
      elim (of_list told (done instance) (put_facts instance 0 puts) fact there) [
        | inl here ↦ subst (λ (f : Fact). Y f ≡ true) here over
        | inr later ↦ own.there fact (subst (λ (list : List Put). among (put_facts instance 0 list) fact ≡ true) (sym same) later)
      ]

  all_there : (before : List Fact) (events : List Event) → AreLegal g before events → ((fact : Fact) → IsSound fact → among before fact ≡ true → Y fact ≡ true)
      → Within (among (environment_in events)) (environment store) → Within (among (facts_in events)) (facts store) → (fact : Fact) → IsSound fact → among (before ++ facts_in events) fact ≡ true → Y fact ≡ true
  all_there before [] legal old given of_store fact sound there = old fact sound (subst (λ (list : List Fact). among list fact ≡ true) (append-nil before) there)
  all_there before (event ∷ events) legal old given of_store fact sound there =
      all_there (before ++ event_facts event) events legal.1 now
      (λ f is. given f (in_two both (environment_facts event) (environment_in events) f is)) (λ f is. of_store f (in_two both (event_facts event) (facts_in events) f is))
      fact sound (subst (λ (list : List Fact). among list fact ≡ true) (sym (append_assoc before (event_facts event) (facts_in events))) there)
    where
      now : (f : Fact) → IsSound f → among (before ++ event_facts event) f ≡ true → Y f ≡ true
      now f is_sound is =
          elim (of_both both before (event_facts event) f is) [
            | inl first ↦ old f is_sound first
            | inr second ↦ event_there before event legal.0 (all_within (among before) Y legal.0.working old) (λ x at. given x (in_one both (environment_facts event) (environment_in events) x at))
                (λ x at. of_store x (in_one both (event_facts event) (facts_in events) x at)) f is_sound second
          ]

  pub all_replayed : (fact : Fact) → IsSound fact → facts store fact ≡ true → Y fact ≡ true
  all_replayed fact sound there =
      all_there [] it.events it.legal (λ f is none. absurd (false≢true none)) (λ f is. sym (it.environment f) ∙ is) (λ f is. sym (it.facts f) ∙ is) fact sound (it.facts fact ∙ there)

  -- ---- the fault

  conflicts_within : (X : Facts) (puts : List Put) → Within X Y → Conflicts X puts → Conflicts Y puts
  conflicts_within X puts within conflict = (
    conflict.0,
    elim conflict.1 [
      | inl twice ↦ inl twice
      | inr other ↦ inr (other.0, (other.1.0, other.1.1, within (item conflict.0 other.1.0 other.1.1) other.1.2))
    ],
  )

  at_fault_within : (X : Facts) → Within X Y → (instance : Inst) (kind : FaultKind) → IsAtFault g X instance kind → IsAtFault g Y instance kind
  at_fault_within X within instance kind (inl faults) = inl (faults_within g X Y within instance kind faults)
  at_fault_within X within instance kind (inr double) = inr (double.0, (double.1.0, gives_within g X Y within instance double.1.0 double.1.1, conflicts_within X double.1.0 within double.1.2))

  sound_facts : (event : Event) → IsDone event ⊎ IsPut event → (fact : Fact) → among (event_facts event) fact ≡ true → IsSound fact
  sound_facts (EnvItem address value) which fact there = subst IsSound (only told both (item address value Env) fact there) tt
  sound_facts (EnvTag name) which fact there = subst IsSound (only told both (tag name) fact there) tt
  sound_facts (Stopped instance kind) (inl which) fact there = absurd which
  sound_facts (Stopped instance kind) (inr which) fact there = absurd which
  sound_facts (Done instance puts) which fact there =
      elim (of_list told (done instance) (put_facts instance 0 puts) fact there) [
        | inl here ↦ subst IsSound here tt
        | inr later ↦ each_of_all told IsSound instance puts (λ number one at. sound_put told instance number one) fact later
      ]

  abbrev IsFaultIn : Fact → Type 0
  IsFaultIn (tag name) = Unit {0}
  IsFaultIn (item address value by) = Unit {0}
  IsFaultIn (done instance) = Unit {0}
  IsFaultIn (bad instance kind) = IsAtFault g Y instance kind

  -- of one event that states the fault
  fault_of : (before : List Fact) (event : Event) → IsLegal g (among before) event → Within (among before) Y → (instance : Inst) (kind : FaultKind) → among (event_facts event) (bad instance kind) ≡ true → IsAtFault g Y instance kind
  fault_of before (EnvItem address value) legal within instance kind there = absurd (sound_facts (EnvItem address value) (inr tt) (bad instance kind) there)
  fault_of before (EnvTag name) legal within instance kind there = absurd (sound_facts (EnvTag name) (inr tt) (bad instance kind) there)
  fault_of before (Done one puts) legal within instance kind there = absurd (sound_facts (Done one puts) (inl tt) (bad instance kind) there)
  fault_of before (Stopped one fault) legal within instance kind there =
      subst IsFaultIn (only told both (bad one fault) (bad instance kind) there) (at_fault_within (among before) within one fault legal.event_is_legal.2)

  fault_there : (before : List Fact) (events : List Event) → AreLegal g before events → Within (among (before ++ facts_in events)) (facts store) → (instance : Inst) (kind : FaultKind) → among (facts_in events) (bad instance kind) ≡ true → IsAtFault g Y instance kind
  fault_there before [] legal of_store instance kind there = absurd (false≢true there)
  fault_there before (event ∷ events) legal of_store instance kind there =
      elim (of_both both (event_facts event) (facts_in events) (bad instance kind) there) [
        | inl here ↦ fault_of before event legal.0 (all_within (among before) Y legal.0.working (λ f sound is. all_replayed f sound (of_store f (in_one both before (event_facts event ++ facts_in events) f is)))) instance kind here
        | inr later ↦ fault_there (before ++ event_facts event) events legal.1 (subst (λ (list : List Fact). Within (among list) (facts store)) (sym (append_assoc before (event_facts event) (facts_in events))) of_store) instance kind later
      ]

  pub is_at_fault : (instance : Inst) (kind : FaultKind) → facts store (bad instance kind) ≡ true → IsAtFault g Y instance kind
  is_at_fault instance kind there = fault_there [] it.events it.legal (λ f is. sym (it.facts f) ∙ is) instance kind (it.facts (bad instance kind) ∙ there)
