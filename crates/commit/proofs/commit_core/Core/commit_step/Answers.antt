use Rattle.std.proofs.Common.{◌≡◌, ◌∙◌, ◌-◌, [], ◌∷◌, false, cond, ap, refl, sym, subst, Some, arith}
use Rattle.instances.specs.declared.state.State.TheVariants.{Ready, Running}
use Rattle.machine.specs.Legal.{IsLegal}
use Rattle.machine.specs.Machine.{HasRoom, puts_of, state_of, environment as environment_of, facts as facts_of}
use Rattle.commit.specs.Core.{Core, facts, graph, is_halted}
use Rattle.commit.specs.Calls.{CrashLeaves}
use Rattle.commit.specs.declared.events.Events.TheVariants.{One}
use Rattle.commit.specs.Doubt.{events_in}
use Rattle.commit.proofs.Allowed.{behind_end, behind_move, some_left}
use Rattle.commit.proofs.Taken.{fits, kept_alike, kept_taken, kept_refused, one_kept}
use Rattle.commit.proofs.commit_core.Core.commit_step.Goals as goal

pub append-requires-clause-puts : goal.append-requires-clause-puts
append-requires-clause-puts g c =
    let legal = subst (λ (old : Core g.row.D.Denot). IsLegal (graph old) (facts old) c.args.event) (sym c.self.view_is) c.requires.due.legal in
    (fits c.legal_events_fit.ensures.fit_state c.self.inside.machine c.is_kept.ensures c.args.event legal).1

pub take_step-requires-clause-legal : goal.take_step-requires-clause-legal
take_step-requires-clause-legal g c = subst (λ (old : Core g.row.D.Denot). IsLegal (graph old) (facts old) c.args.event) (sym c.self.view_is) c.requires.due.legal

pub take_step-requires-clause-room : goal.take_step-requires-clause-room
take_step-requires-clause-room g c = subst (λ (old : Core g.row.D.Denot). HasRoom old.machine (puts_of c.args.event)) (sym c.self.view_is) c.requires.due.room

pub invariant_of-self : goal.invariant_of-self
invariant_of-self g c =
    let before = c.self.inside in
    let working : before.vault.halted ≡ false = ap is_halted c.self.view_is ∙ c.requires.due.working in
    let legal = subst (λ (old : Core g.row.D.Denot). IsLegal (graph old) (facts old) c.args.event) (sym c.self.view_is) c.requires.due.legal in
    let it = fits c.legal_events_fit.ensures.fit_state before.machine c.is_kept.ensures c.args.event legal in
    let ran : state_of before.machine c.args.task ≡ Some Running = ap (λ (core : Core g.row.D.Denot). state_of core.machine c.args.task) c.self.view_is ∙ c.requires.running in
    let left = some_left c.runs_are_counted.ensures.one before.machine c.args.task before.allowance ran c.self.invariant.2 in (
      λ _. c.self.invariant.0 working,
      λ honest.
          let holds = (c.self.invariant.1 honest).holds working in
          kept_taken g.D.Disk (g.met.D.Disk.at_now honest) ((c.stores_go_on.ensures.rest honest).held)
          c.append.new.self before.machine c.take_step.new.self c.args.event (events_in before.in_doubt) (events_in c.keep_latest.new.latest) (before.allowance - 1) c.take_step.ensures
          ((c.in-Ok.ensures.adds honest before.machine.graph (environment_of before.machine) (facts_of before.machine) holds).added (it.0, tt)),
      behind_end c.runs_are_counted.ensures.one_less before.machine c.take_step.new.self c.args.event c.args.task before.allowance (before.allowance - 1)
          c.requires.ends ran c.take_step.ensures c.self.invariant.2 (omega (arith, left)),
    )

pub invariant_of-self-in-Err : goal.invariant_of-self-in-Err
invariant_of-self-in-Err g c =
    let before = c.self.inside in
    let working : before.vault.halted ≡ false = ap is_halted c.self.view_is ∙ c.requires.due.working in
    let legal = subst (λ (old : Core g.row.D.Denot). IsLegal (graph old) (facts old) c.args.event) (sym c.self.view_is) c.requires.due.legal in
    let it = fits c.legal_events_fit.ensures.fit_state before.machine c.is_kept.ensures c.args.event legal in
    let doubt : c.keep_in_doubt.new.in_doubt ≡ cond c.append.new.self.halted (One c.args.event) before.in_doubt = c.keep_in_doubt.ensures ∙ ap (λ h. cond h (One c.args.event) before.in_doubt) c.is_halted.ensures in (
      λ goes. doubt ∙ ap (λ h. cond h (One c.args.event) before.in_doubt) goes ∙ c.self.invariant.0 working,
      λ honest.
          let holds = (c.self.invariant.1 honest).holds working in
          kept_alike g.D.Disk (g.met.D.Disk.at_now honest) c.append.new.self before.machine c.release.new.self (events_in c.keep_in_doubt.new.in_doubt) (events_in before.latest) before.allowance before.allowance
          c.release.ensures.graph c.release.ensures.environment c.release.ensures.facts
          (kept_refused g.D.Disk (g.met.D.Disk.at_now honest) ((c.stores_go_on.ensures.rest honest).held) c.stores_go_on.ensures.calls.refused
          before.vault c.append.new.self before.machine (c.args.event ∷ []) before.in_doubt c.keep_in_doubt.new.in_doubt (events_in before.latest) before.allowance working
          (one_kept c.append.new.self.halted c.args.event before.in_doubt c.keep_in_doubt.new.in_doubt doubt) holds c.in-Err.ensures.halting.same
          ((c.append.ensures.adds honest before.machine.graph (environment_of before.machine) (facts_of before.machine) holds).any_moment (it.0, tt))),
      behind_move before.machine c.release.new.self c.args.task Ready before.allowance refl c.release.ensures c.self.invariant.2,
    )

pub returns-in-Ok-clause-moments : goal.returns-in-Ok-clause-moments
returns-in-Ok-clause-moments g c honest =
    let before = c.self.inside in
    let working : before.vault.halted ≡ false = ap is_halted c.self.view_is ∙ c.requires.due.working in
    let legal = subst (λ (old : Core g.row.D.Denot). IsLegal (graph old) (facts old) c.args.event) (sym c.self.view_is) c.requires.due.legal in
    let it = fits c.legal_events_fit.ensures.fit_state before.machine c.is_kept.ensures c.args.event legal in
    let holds = (c.self.invariant.1 honest).holds working in
    subst (λ (old : Core g.row.D.Denot). CrashLeaves g.D.Disk old (record { vault = c.append.new.self; machine = c.take_step.new.self; in_doubt = events_in before.in_doubt; latest = events_in c.keep_latest.new.latest; allowance = before.allowance - 1 }) (c.args.event ∷ [])) c.self.view_is
    (record {
      facts = (c.append.ensures.adds honest before.machine.graph (environment_of before.machine) (facts_of before.machine) holds).any_moment (it.0, tt);
      gates = (c.append.ensures.adds honest before.machine.graph (environment_of before.machine) (facts_of before.machine) holds).gates;
    })

pub returns-in-Err-clause-moments : goal.returns-in-Err-clause-moments
returns-in-Err-clause-moments g c honest =
    let before = c.self.inside in
    let working : before.vault.halted ≡ false = ap is_halted c.self.view_is ∙ c.requires.due.working in
    let legal = subst (λ (old : Core g.row.D.Denot). IsLegal (graph old) (facts old) c.args.event) (sym c.self.view_is) c.requires.due.legal in
    let it = fits c.legal_events_fit.ensures.fit_state before.machine c.is_kept.ensures c.args.event legal in
    let holds = (c.self.invariant.1 honest).holds working in
    subst (λ (old : Core g.row.D.Denot). CrashLeaves g.D.Disk old (record { vault = c.append.new.self; machine = c.release.new.self; in_doubt = events_in c.keep_in_doubt.new.in_doubt; latest = events_in before.latest; allowance = before.allowance }) (c.args.event ∷ [])) c.self.view_is
    (record {
      facts = (c.append.ensures.adds honest before.machine.graph (environment_of before.machine) (facts_of before.machine) holds).any_moment (it.0, tt);
      gates = (c.append.ensures.adds honest before.machine.graph (environment_of before.machine) (facts_of before.machine) holds).gates;
    })
