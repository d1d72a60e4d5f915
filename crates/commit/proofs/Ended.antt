-- The result of a finish says which end it commits.
use Rattle.std.proofs.Common.{◌≡◌, ◌∙◌, ⊎_elim, Bool, true, false, true≢false, sym, ap}
use Rattle.terms.specs.declared.fault.FaultKind.{FaultKind}
use Rattle.terms.specs.declared.fault.FaultKind.TheVariants.{DoublePut}
use Rattle.terms.specs.declared.name.Inst.{Inst}
use Rattle.terms.specs.declared.event.Event.{Event}
use Rattle.terms.specs.declared.event.Event.TheVariants as event
use Rattle.commit.specs.declared.outcome.Outcome.{Outcome}
use Rattle.commit.specs.declared.outcome.Outcome.TheVariants.{Gave, Fault}
use Rattle.commit.specs.declared.outcome.Committed.{Committed}
use Rattle.commit.specs.declared.outcome.Committed.TheVariants.{Done, Stopped}
use Rattle.commit.specs.Outcome.{IsEndOf, Tells, end_of}

abbrev pub is_done : Event → Bool
is_done (event.Done instance puts) = true
is_done other = false

abbrev pub kind_of : Event → FaultKind
kind_of (event.Stopped instance kind) = kind
kind_of other = DoublePut

pub end_is_told : (committed : Committed) (instance : Inst) (outcome : Outcome) (end : Event) → IsEndOf outcome instance end → Tells committed end → end ≡ end_of committed instance outcome
end_is_told Done instance (Gave given) end is told =
    ⊎_elim (λ (done : end ≡ event.Done instance given.puts). done) (λ (stopped : end ≡ event.Stopped instance DoublePut). absurd (true≢false (sym (ap is_done told.2) ∙ ap is_done stopped))) is
end_is_told Done instance (Fault bad) end is told = is
end_is_told (Stopped kind) instance (Gave given) end is told =
    ⊎_elim
    (λ (done : end ≡ event.Done instance given.puts). absurd (true≢false (sym (ap is_done done) ∙ ap is_done told.1)))
    (λ (stopped : end ≡ event.Stopped instance DoublePut). stopped ∙ ap (event.Stopped instance) (sym (ap kind_of stopped) ∙ ap kind_of told.1))
    is
end_is_told (Stopped kind) instance (Fault bad) end is told = is ∙ ap (event.Stopped instance) (sym (ap kind_of is) ∙ ap kind_of told.1)
