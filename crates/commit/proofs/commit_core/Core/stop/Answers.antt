use Rattle.std.proofs.Common.{ap, subst, sym, [], ◌∷◌}
use Rattle.terms.specs.declared.event.Event.{Event}
use Rattle.terms.specs.declared.event.Event.TheVariants.{Stopped}
use Rattle.machine.specs.Legal.{IsLegal}
use Rattle.machine.specs.Machine.{RefusesEnd}
use Rattle.machine.specs.Meaning.{BodyFaults}
use Rattle.vault.specs.declared.vault.Vault.{Vault}
use Rattle.commit.specs.declared.error.CoreError.TheVariants.{Refused}
use Rattle.commit.specs.Core.{Core, facts, graph}
use Rattle.commit.proofs.Roomy.{refused_first, rests}
use Rattle.commit.proofs.commit_core.Core.stop.Goals as goal

pub may_stop-requires-clause-faults : goal.may_stop-requires-clause-faults
may_stop-requires-clause-faults g c = subst (λ (old : Core g.row.D.Denot). BodyFaults (graph old) (facts old) c.args.task c.args.kind) (sym c.self.view_is) c.requires.faults

pub returns-in-Err-clause-commits : goal.returns-in-Err-clause-commits
returns-in-Err-clause-commits g c =
    let old = c.args.self.now in
    let new = c.release.new.self in
    let event : Event = Stopped c.args.task c.args.kind in
    let why = subst (λ (core : Core g.row.D.Denot). RefusesEnd (facts core) c.in-Err.refusal) c.self.view_is c.in-Err.ensures.refused in
    let illegal = subst (λ (core : Core g.row.D.Denot). IsLegal (graph core) (facts core) event → ⊥) c.self.view_is (c.in-Err.ensures.illegal event) in
    refused_first g.D.Disk old new (RefusesEnd (facts old)) event (Refused c.in-Err.refusal)
    (c.requires.working, why) (λ legal. absurd (illegal legal)) (ap (λ (v : Vault g.row.D.Denot). v.halted) c.release.ensures.vault)
    (λ honest working. rests g.D.Disk old new (event ∷ []) ((c.stores_go_on.ensures.rest honest).held) ((c.stores_go_on.ensures.gates honest).rest) (c.is_kept.ensures.kept honest) working c.release.ensures.vault)
