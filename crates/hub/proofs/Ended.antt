-- What a finish may return for an outcome.
use Rattle.std.proofs.Common.{◌≡◌, ◌∙◌, ⊎_elim, true≢false, sym, ap}
use Rattle.terms.specs.declared.fault.FaultKind.TheVariants.{DoublePut}
use Rattle.terms.specs.declared.name.Inst.{Inst}
use Rattle.terms.specs.declared.event.Event.{Event}
use Rattle.terms.specs.declared.event.Event.TheVariants as event
use Rattle.commit.specs.declared.outcome.Outcome.{Outcome}
use Rattle.commit.specs.declared.outcome.Outcome.TheVariants.{Gave, Fault}
use Rattle.commit.specs.declared.outcome.Committed.{Committed}
use Rattle.commit.specs.declared.outcome.Committed.TheVariants.{Done, Stopped}
use Rattle.commit.specs.Outcome.{IsEndOf, Tells}
use Rattle.commit.proofs.Ended.{is_done, kind_of}
use Rattle.hub.specs.Ends.{MayAnswer}

pub may_answer : (committed : Committed) (instance : Inst) (outcome : Outcome) (end : Event) → IsEndOf outcome instance end → Tells committed end → MayAnswer outcome committed
may_answer Done instance (Gave given) end is told = tt
may_answer Done instance (Fault bad) end is told = absurd (true≢false (sym (ap is_done told.2) ∙ ap is_done is))
may_answer (Stopped kind) instance (Gave given) end is told =
    ⊎_elim
    (λ (done : end ≡ event.Done instance given.puts). absurd (true≢false (sym (ap is_done done) ∙ ap is_done told.1)))
    (λ (stopped : end ≡ event.Stopped instance DoublePut). sym (ap kind_of told.1) ∙ ap kind_of stopped)
    is
may_answer (Stopped kind) instance (Fault bad) end is told = sym (ap kind_of told.1) ∙ ap kind_of is
