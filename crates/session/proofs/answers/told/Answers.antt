use Rattle.std.proofs.Common.{◌∙◌, ap, arith, subst, Ok}
use Rattle.std.specs.Prelude.{Result}
use Rattle.commit.specs.declared.verdict.RunError.{RunError}
use Rattle.commit.specs.declared.verdict.Verdict.{Verdict}
use Rattle.commit.specs.Runs.{MetFull, TellsVerdict}
use Rattle.session.proofs.Told.{blocked_cause, told_blocked, told_complete}
use Rattle.session.proofs.answers.told.Goals as goal

pub returns-in-Ok-Complete-clause-tells : goal.returns-in-Ok-Complete-clause-tells
returns-in-Ok-Complete-clause-tells g c h X from commits may_be_asked may_spawn was_halted limit count told =
    let at = c.in-Ok-Complete.is ∙ ap Ok c.in-Ok-Complete.field-0-is in
    told_complete c.args.core.now c.is_kept.ensures.machine (MetFull h X from commits) may_be_asked may_spawn was_halted limit count
    (subst (λ (r : Result Verdict RunError). TellsVerdict (MetFull h X from commits) may_be_asked may_spawn c.args.core.now limit count r) at told)

pub returns-in-Ok-Blocked-clause-tells : goal.returns-in-Ok-Blocked-clause-tells
returns-in-Ok-Blocked-clause-tells g c h X from commits may_be_asked may_spawn was_halted limit count told =
    let at = c.in-Ok-Blocked.is ∙ ap Ok c.in-Ok-Blocked.field-0-is in
    told_blocked c.args.core.now c.is_kept.ensures.machine (MetFull h X from commits) may_be_asked may_spawn was_halted limit count _ c.blocked.result
    (subst (λ (r : Result Verdict RunError). TellsVerdict (MetFull h X from commits) may_be_asked may_spawn c.args.core.now limit count r) at told) c.blocked.ensures

pub returns-in-Ok-Blocked-clause-cause : goal.returns-in-Ok-Blocked-clause-cause
returns-in-Ok-Blocked-clause-cause g c h X from commits may_be_asked may_spawn limit count told =
    let at = c.in-Ok-Blocked.is ∙ ap Ok c.in-Ok-Blocked.field-0-is in
    let is = subst (λ (r : Result Verdict RunError). TellsVerdict (MetFull h X from commits) may_be_asked may_spawn c.args.core.now limit count r) at told in
    blocked_cause h X from c.args.core.now commits c.blocked.result _ is.1 is.0 (c.blocked.ensures is.0.0 is.0.1.1 (λ none. is.1 (is.0.1.2 ∙ omega (arith, none))))
