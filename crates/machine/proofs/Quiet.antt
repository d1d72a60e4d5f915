-- If nothing is left to do, the facts are closed.
use Rattle.std.proofs.Common.{◌≡◌, ℕ, true, List, [], ◌∷◌, ◌++◌, inl, inr, sym, subst}
use Rattle.terms.specs.declared.name.Addr.{Addr}
use Rattle.terms.specs.declared.name.Inst.{Inst}
use Rattle.terms.specs.declared.fault.FaultKind.{FaultKind}
use Rattle.terms.specs.declared.producer.Producer.{Producer}
use Rattle.terms.specs.declared.producer.Producer.TheVariants.{Env, By}
use Rattle.terms.specs.declared.put.Put.{Put}
use Rattle.terms.specs.declared.event.Event.{Event}
use Rattle.terms.specs.declared.event.Event.TheVariants.{Stopped}
use Rattle.terms.specs.Facts.{Fact, item, done, bad, facts, put_facts}
use Rattle.terms.specs.Sets.{Facts, among, OneFact, AmongBoth, stated, put_by_environment}
use Rattle.steptree.specs.Bodies.{Ending, Gives, Faults, Asks}
use Rattle.steptree.specs.Laws.{LookUpEndsOnce}
use Rattle.graph.specs.Graph.{Graph, BodyMeans}
use Rattle.graph.specs.Fits.{IsPrescribed}
use Rattle.machine.specs.Meaning.{items, BodyGives, BodyFaults, IsAnother, IsDoubled, IsClosed, Meaning, IsClean}
use Rattle.machine.specs.Legal.{AreLegal, IsQuiet}
use Rattle.machine.specs.Laws.{IsThere}
use Rattle.machine.proofs.Sets.{not_both, same_truth, given_is_stated}
use Rattle.machine.proofs.Grown.{one_ending}
use Rattle.machine.proofs.PutFacts.{put_has_item}
use Rattle.machine.proofs.Kept.{Gave}
use Rattle.machine.proofs.Within.{kept_from_nothing, stays_within, stopped_is_meant}

module _ (told : OneFact) (both : AmongBoth) (once : LookUpEndsOnce) (g : Graph) where
  module _ (events : List Event) (legal : AreLegal g [] events) (quiet : IsQuiet g (stated events)) where
    abbrev X : Facts
    X = stated events

    unique : (instance : Inst) (one two : Ending) → BodyMeans g instance (items X) one → BodyMeans g instance (items X) two → one ≡ two
    unique instance = one_ending told (facts events) (kept_from_nothing told both g events legal).one_item once g instance

    -- an instance that gives puts is done, and these are its puts
    gave : (instance : Inst) (puts : List Put) → IsPrescribed g X instance → BodyGives g X instance puts → (it : Gave g X instance) × (it.puts ≡ puts) × (X (done instance) ≡ true)
    gave instance puts prescribed gives =
        elim (quiet.done_or_blocked instance prescribed) [
          | inl is_done ↦ (let it = (kept_from_nothing told both g events legal).gave instance is_done in
              (it, same_puts it.puts puts (unique instance (Gives it.puts) (Gives puts) it.gives gives), is_done))
          | inr blocked ↦ absurd (asks_gives blocked.0 puts (unique instance (Asks blocked.0) (Gives puts) blocked.1 gives))
        ]
      where
        same_puts : (one two : List Put) → Gives one ≡ Gives two → one ≡ two
        same_puts one two same = cc

        asks_gives : (address : Addr) (list : List Put) → Asks address ≡ Gives list → ⊥
        asks_gives address list same = cc

    not_doubled : (instance : Inst) (puts : List Put) → (it : Gave g X instance) → it.puts ≡ puts → IsDoubled X instance puts → ⊥
    not_doubled instance puts it same double =
        let there : IsDoubled X instance it.puts = subst (λ (list : List Put). IsDoubled X instance list) (sym same) double in
        elim there.1 [
          | inl twice ↦ it.distinct there.0 twice
          | inr other ↦ (
              let own = put_has_item told instance 0 it.puts there.0 other.0 in
              let one = (kept_from_nothing told both g events legal).one_item there.0 own.0 other.1.0 (By instance own.1) other.1.1
              (it.there (item there.0 own.0 (By instance own.1)) own.2) other.1.2 in
              itself own.1 other.1.1 one.1 other.1.3)
        ]
      where
        itself : (number : ℕ) (by : Producer) → By instance number ≡ by → IsAnother instance by → ⊥
        itself number Env same_by another = cc
        itself number (By third m) same_by another = another (sym (one_instance number m third same_by))
          where
            one_instance : (number m : ℕ) (third : Inst) → By instance number ≡ By third m → instance ≡ third
            one_instance number m third same_by = cc

    no_faults : (instance : Inst) (kind : FaultKind) → IsPrescribed g X instance → BodyFaults g X instance kind → ⊥
    no_faults instance kind prescribed faults =
        elim (quiet.done_or_blocked instance prescribed) [
          | inl is_done ↦ (let it = (kept_from_nothing told both g events legal).gave instance is_done in
              gives_faults it.puts (unique instance (Gives it.puts) (Faults kind) it.gives faults))
          | inr blocked ↦ asks_faults blocked.0 (unique instance (Asks blocked.0) (Faults kind) blocked.1 faults)
        ]
      where
        gives_faults : (list : List Put) → Gives list ≡ Faults kind → ⊥
        gives_faults list same = cc

        asks_faults : (address : Addr) → Asks address ≡ Faults kind → ⊥
        asks_faults address same = cc

    is_closed : IsClosed g (put_by_environment events) X
    is_closed = record {
      environment = given_is_stated both events;
      done = λ instance puts prescribed gives. (gave instance puts prescribed gives).2;
      puts = λ instance puts prescribed gives fact there.
          (let it = gave instance puts prescribed gives in
          it.0.there fact (subst (λ (list : List Put). among (put_facts instance 0 list) fact ≡ true) (sym it.1) there));
      doubled = λ instance puts prescribed gives double.
          (let it = gave instance puts prescribed gives in absurd (not_doubled instance puts it.0 it.1 double));
      faults = λ instance kind prescribed faults. absurd (no_faults instance kind prescribed faults);
    }

    pub quiet_is_meaning : (fact : Fact) → Meaning g (put_by_environment events) fact → stated events fact ≡ true
    quiet_is_meaning fact meant = meant X is_closed

    pub quiet_is_clean : IsClean g (put_by_environment events)
    quiet_is_clean = record {
      no_fault = λ instance kind meant. not_both (X (bad instance kind)) (quiet_is_meaning (bad instance kind) meant) (quiet.no_fault instance kind);
      one_item = λ address v w p q one two. (kept_from_nothing told both g events legal).one_item address v w p q
          (quiet_is_meaning (item address v p) one) (quiet_is_meaning (item address w q) two);
    }

  -- a meaning is within each quiet set that contains its environment
  within_quiet : (one two : List Event) → AreLegal g [] two → IsQuiet g (stated two) → IsThere one two → (fact : Fact) → Meaning g (put_by_environment one) fact → stated two fact ≡ true
  within_quiet one two legal quiet there fact meant =
      let closed = is_closed two legal quiet in
      meant (stated two) (record { environment = there; done = closed.done; puts = closed.puts; doubled = closed.doubled; faults = closed.faults })

  pub stopped_or_quiet : (one two : List Event) (instance : Inst) (kind : FaultKind) → AreLegal g [] (one ++ Stopped instance kind ∷ []) → AreLegal g [] two
      → IsThere one two → IsQuiet g (stated two) → ⊥
  stopped_or_quiet one two instance kind first second there quiet =
      not_both (stated two (bad instance kind)) (within_quiet one two second quiet there (bad instance kind) (stopped_is_meant told both g one instance kind first)) (quiet.no_fault instance kind)

  goes_over : (one two : List Event) → AreLegal g [] one → AreLegal g [] two → IsThere one two → IsQuiet g (stated two) → (fact : Fact) → stated one fact ≡ true → stated two fact ≡ true
  goes_over one two first second there quiet fact it = within_quiet one two second quiet there fact (stays_within told both g one first fact it)

  pub one_end : (one two : List Event) → AreLegal g [] one → AreLegal g [] two → IsThere one two → IsThere two one → IsQuiet g (stated one) → IsQuiet g (stated two)
      → (fact : Fact) → stated one fact ≡ stated two fact
  one_end one two first second there back quiet_one quiet_two fact =
      same_truth (stated one fact) (stated two fact) (goes_over one two first second there quiet_two fact) (goes_over two one second first back quiet_one fact)
