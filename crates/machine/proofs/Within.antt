-- The facts of legal events are within each closed set.
use Rattle.std.proofs.Common.{◌≡◌, ℤ, true, false, List, [], ◌∷◌, ◌++◌, inl, inr, sym, subst}
use Rattle.std.proofs.lemmas.Bool.{false≢true}
use Rattle.std.proofs.lemmas.List.{append_assoc, append-nil}
use Rattle.terms.specs.declared.name.Addr.{Addr}
use Rattle.terms.specs.declared.name.Inst.{Inst}
use Rattle.terms.specs.declared.fault.FaultKind.{FaultKind}
use Rattle.terms.specs.declared.producer.Producer.{Producer}
use Rattle.terms.specs.declared.producer.Producer.TheVariants.{Env, By}
use Rattle.terms.specs.declared.put.Put.{Put}
use Rattle.terms.specs.declared.event.Event.{Event}
use Rattle.terms.specs.declared.event.Event.TheVariants.{EnvItem, EnvTag, Done, Stopped}
use Rattle.terms.specs.Facts.{Fact, item, done, bad, facts, environment, event_facts, environment_facts, put_facts}
use Rattle.terms.specs.Sets.{Facts, among, OneFact, AmongBoth, stated, put_by_environment}
use Rattle.graph.specs.Graph.{Graph}
use Rattle.machine.specs.Meaning.{IsAnother, IsDoubled, IsClosed, Meaning}
use Rattle.machine.specs.Legal.{Conflicts, IsLegal, AreLegal}
use Rattle.machine.proofs.Sets.{Within, of_list, of_both, in_one, in_two, not_both}
use Rattle.machine.proofs.Grown.{prescribed_within, gives_within, faults_within}
use Rattle.machine.proofs.Kept.{Kept, ProducersAreDone, kept_nothing, kept_event, kept_list, only}

module _ (told : OneFact) (both : AmongBoth) (g : Graph) (E Y : Facts) (closed : IsClosed g E Y) where
  -- an item was put by another than an instance that is not done
  another : (X : Facts) → ProducersAreDone X → (instance : Inst) → X (done instance) ≡ false → (address : Addr) (value : ℤ) (by : Producer) → X (item address value by) ≡ true → IsAnother instance by
  another X producers instance not_done address value Env there = tt
  another X producers instance not_done address value (By other number) there =
      λ same. not_both (X (done other)) (producers address value other number there) (subst (λ (i : Inst). X (done i) ≡ false) (sym same) not_done)

  doubled : (X : Facts) → Within X Y → ProducersAreDone X → (instance : Inst) → X (done instance) ≡ false → (puts : List Put) → Conflicts X puts → IsDoubled Y instance puts
  doubled X within producers instance not_done puts conflict = (
    conflict.0,
    elim conflict.1 [
      | inl twice ↦ inl twice
      | inr it ↦ inr (it.0, (it.1.0, it.1.1, within (item conflict.0 it.1.0 it.1.1) it.1.2, another X producers instance not_done conflict.0 it.1.0 it.1.1 it.1.2))
    ],
  )

  -- a fault that may come is in the set
  pub fault_within : (X : Facts) → Within X Y → ProducersAreDone X → (instance : Inst) (kind : FaultKind) → IsLegal g X (Stopped instance kind) → Y (bad instance kind) ≡ true
  fault_within X within producers instance kind legal =
      let it = legal.event_is_legal in
      let prescribed = prescribed_within g X Y within instance it.0 in
      elim it.2 [
        | inl faults ↦ closed.faults instance kind prescribed (faults_within g X Y within instance kind faults)
        | inr put ↦ subst (λ (k : FaultKind). Y (bad instance k) ≡ true) (sym put.0)
            (closed.doubled instance put.1.0 prescribed (gives_within g X Y within instance put.1.0 put.1.1) (doubled X within producers instance it.1 put.1.0 put.1.2))
      ]

  -- and so is what an event states
  event_within : (X : Facts) → Within X Y → ProducersAreDone X → (event : Event) → IsLegal g X event → Within (among (environment_facts event)) E → Within (among (event_facts event)) Y
  event_within X within producers (EnvItem address value) legal environment fact there = closed.environment fact (environment fact there)
  event_within X within producers (EnvTag name) legal environment fact there = closed.environment fact (environment fact there)
  event_within X within producers (Done instance puts) legal environment fact there =
      let it = legal.event_is_legal in
      let prescribed = prescribed_within g X Y within instance it.0 in
      let gives = gives_within g X Y within instance puts it.2 in
      elim (of_list told (done instance) (put_facts instance 0 puts) fact there) [
        | inl same ↦ subst (λ (f : Fact). Y f ≡ true) same (closed.done instance puts prescribed gives)
        | inr of_puts ↦ closed.puts instance puts prescribed gives fact of_puts
      ]
  event_within X within producers (Stopped instance kind) legal environment fact there =
      subst (λ (f : Fact). Y f ≡ true) (only told both (bad instance kind) fact there) (fault_within X within producers instance kind legal)

  both_within : (one two : List Fact) → Within (among one) Y → Within (among two) Y → Within (among (one ++ two)) Y
  both_within one two first second fact there = elim (of_both both one two fact there) [ inl it ↦ first fact it | inr it ↦ second fact it ]

  pub list_within : (before : List Fact) (events : List Event) → Kept g (among before) → Within (among before) Y → AreLegal g before events → Within (among (environment events)) E → Within (among (facts events)) Y
  list_within before [] kept within legal environment fact there = absurd (false≢true there)
  list_within before (event ∷ events) kept within legal given fact there =
      let first = event_within (among before) within kept.producers event legal.0 (λ f it. given f (in_one both (environment_facts event) (environment events) f it)) in
      elim (of_both both (event_facts event) (facts events) fact there) [
        | inl it ↦ first fact it
        | inr it ↦ list_within (before ++ event_facts event) events (kept_event told both g before event kept legal.0)
            (both_within before (event_facts event) within first) legal.1 (λ f i. given f (in_two both (environment_facts event) (environment events) f i)) fact it
      ]

module _ (told : OneFact) (both : AmongBoth) (g : Graph) where
  pub kept_from_nothing : (events : List Event) → AreLegal g [] events → Kept g (stated events)
  kept_from_nothing events legal = kept_list told both g [] events (kept_nothing g) legal

  -- after a legal list from the empty store, the facts are within the meaning
  pub stays_within : (events : List Event) → AreLegal g [] events → (fact : Fact) → stated events fact ≡ true → Meaning g (put_by_environment events) fact
  stays_within events legal fact there Y closed =
      list_within told both g (put_by_environment events) Y closed [] events (kept_nothing g) (λ f none. absurd (false≢true none)) legal (λ f it. it) fact there

  -- the parts of a legal list
  pub parts : (before : List Fact) (one two : List Event) → AreLegal g before (one ++ two) → AreLegal g before one × AreLegal g (before ++ facts one) two
  parts before [] two legal = (tt, subst (λ (list : List Fact). AreLegal g list two) (sym (append-nil before)) legal)
  parts before (event ∷ one) two legal =
      let rest = parts (before ++ event_facts event) one two legal.1 in
      ((legal.0, rest.0), subst (λ (list : List Fact). AreLegal g list two) (append_assoc before (event_facts event) (facts one)) rest.1)

  pub goes_on : (before : List Fact) (one two : List Event) → AreLegal g before one → AreLegal g (before ++ facts one) two → AreLegal g before (one ++ two)
  goes_on before [] two first second = subst (λ (list : List Fact). AreLegal g list two) (append-nil before) second
  goes_on before (event ∷ one) two first second =
      (first.0, goes_on (before ++ event_facts event) one two first.1 (subst (λ (list : List Fact). AreLegal g list two) (sym (append_assoc before (event_facts event) (facts one))) second))

  -- a fault at the end of a legal list is meant
  pub stopped_is_meant : (events : List Event) (instance : Inst) (kind : FaultKind) → AreLegal g [] (events ++ Stopped instance kind ∷ []) → Meaning g (put_by_environment events) (bad instance kind)
  stopped_is_meant events instance kind legal Y closed =
      let split = parts [] events (Stopped instance kind ∷ []) legal in
      fault_within told both g (put_by_environment events) Y closed (stated events) (λ fact there. stays_within events split.0 fact there Y closed)
      (kept_from_nothing events split.0).producers instance kind split.1.0
