-- A done instance of a store to which legal events lead: its body gives what the store says, over what is marked too.
use Rattle.std.proofs.Common.{◌≡◌, ◌∙◌, ℕ, ◌+◌, true, List, Some, sym, subst, arith}
use Rattle.std.specs.Prelude.{slice_get}
use Rattle.terms.specs.declared.name.Inst.{Inst}
use Rattle.terms.specs.declared.fault.FaultKind.{FaultKind}
use Rattle.terms.specs.declared.name.Addr.{Addr}
use Rattle.terms.specs.declared.put.Put.{Put}
use Rattle.terms.specs.Facts.{Fact, done, facts as facts_in, put_fact, put_facts}
use Rattle.terms.specs.Sets.{Facts, OneFact, AmongBoth, among, stated}
use Rattle.steptree.specs.Bodies.{Asks, Ending, Faults, Gives}
use Rattle.steptree.specs.Laws.{LookUpEndsOnce}
use Rattle.graph.specs.Graph.{BodyMeans}
use Rattle.machine.specs.Legal.{Needs}
use Rattle.machine.specs.Machine.{Machine, environment, facts}
use Rattle.machine.specs.Marked.{Marks, marked}
use Rattle.machine.specs.Meaning.{BodyFaults, BodyGives, items}
use Rattle.machine.specs.State.{IsReached}
use Rattle.machine.proofs.Grown.{gives_within, one_ending}
use Rattle.machine.proofs.Kept.{Gave, Kept}
use Rattle.machine.proofs.Reached.{reached_one_ending}
use Rattle.machine.proofs.Within.{kept_from_nothing}
use Rattle.audit.specs.Replayed.{HasAll, IsReplayed, IsStuck}
use Rattle.audit.proofs.Stated.{is_fact_of}

same_puts : (one two : List Put) → Gives one ≡ Gives two → one ≡ two
same_puts one two same = cc

gives_or_faults : (list : List Put) (kind : FaultKind) → Gives list ≡ Faults kind → ⊥
gives_or_faults list kind same = cc

asks_or_gives : (address : Addr) (list : List Put) → Asks address ≡ Gives list → ⊥
asks_or_gives address list same = cc

module _ (told : OneFact) (both : AmongBoth) (once : LookUpEndsOnce) (store : Machine) (m : Marks) (replayed : IsReplayed store m) (task : Inst) where
  -- ---- why nothing more comes of it

  unique : (one two : Ending) → BodyMeans store.graph task (items (marked m)) one → BodyMeans store.graph task (items (marked m)) two → one ≡ two
  unique one two = reached_one_ending told both once store.graph (environment store) (marked m) replayed.reached task one two

  pub at_fault : (kind : FaultKind) → BodyFaults store.graph (marked m) task kind → IsStuck store m task
  at_fault kind faults puts prescribed gives it = gives_or_faults puts kind (unique (Gives puts) (Faults kind) gives faults)

  pub waits : (address : Addr) → Needs store.graph (marked m) task address → IsStuck store m task
  waits address needs puts prescribed gives it = asks_or_gives address puts (unique (Asks address) (Gives puts) needs gives)

  module _ (is_done : facts store (done task) ≡ true) (it : IsReached store.graph (environment store) (facts store)) where
    abbrev S : Facts
    S = stated it.events

    kept : Kept store.graph S
    kept = kept_from_nothing told both store.graph it.events it.legal

    -- what is marked is among what the events state
    within : (fact : Fact) → marked m fact ≡ true → S fact ≡ true
    within fact there = it.facts fact ∙ replayed.within fact there

    gave : Gave store.graph S task
    gave = kept.gave task (it.facts (done task) ∙ is_done)

    its_puts : (puts : List Put) → BodyGives store.graph (marked m) task puts → gave.puts ≡ puts
    its_puts puts gives =
        same_puts gave.puts puts (one_ending told (facts_in it.events) kept.one_item once store.graph task (Gives gave.puts) (Gives puts) gave.gives (gives_within store.graph (marked m) S within task puts gives))

    has_its_puts : (puts : List Put) → BodyGives store.graph (marked m) task puts → HasAll (facts store) task puts
    has_its_puts puts gives number one at =
        let same = its_puts puts gives in
        let in_list = is_fact_of told task 0 gave.puts number one (subst (λ (list : List Put). slice_get list number ≡ Some one) (sym same) at) in
        sym (it.facts (put_fact task number one)) ∙ gave.there (put_fact task number one) (subst (λ (n : ℕ). among (put_facts task 0 gave.puts) (put_fact task n one) ≡ true) (from_zero number) in_list)
      where
        from_zero : (n : ℕ) → 0 + n ≡ n
        from_zero n = omega arith

  -- if the store lacks one of its puts, no legal events lead to the store
  pub lacks : facts store (done task) ≡ true → (own : List Put) → BodyGives store.graph (marked m) task own → (HasAll (facts store) task own → ⊥) → IsStuck store m task
  lacks is_done own gives not puts prescribed others it = not (has_its_puts is_done it own gives)
