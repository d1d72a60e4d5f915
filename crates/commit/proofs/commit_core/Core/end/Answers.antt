use Rattle.std.proofs.Common.{◌≡◌, ◌∙◌, ap, inl, inr, refl, subst, sym, [], ◌∷◌, List}
use Rattle.terms.specs.declared.put.Put.{Put}
use Rattle.terms.specs.declared.fault.FaultKind.TheVariants.{DoublePut}
use Rattle.terms.specs.declared.event.Event.{Event}
use Rattle.terms.specs.declared.event.Event.TheVariants.{Done, Stopped}
use Rattle.machine.specs.declared.end.End.{End}
use Rattle.machine.specs.Legal.{IsLegal}
use Rattle.machine.specs.Machine.{Machine, RefusesEnd, event_of, facts as facts_of}
use Rattle.machine.specs.Meaning.{BodyGives}
use Rattle.vault.specs.declared.vault.Vault.{Vault}
use Rattle.commit.specs.declared.error.CoreError.TheVariants.{Refused}
use Rattle.commit.specs.declared.outcome.Committed.{Committed}
use Rattle.commit.specs.declared.outcome.Committed.TheVariants as committed
use Rattle.commit.specs.Core.{Core, facts, graph}
use Rattle.commit.specs.Calls.{Commits, NoCause}
use Rattle.commit.specs.Doubt.{events_in}
use Rattle.commit.specs.Outcome.{Tells}
use Rattle.commit.proofs.Answered.{if_ok}
use Rattle.commit.proofs.Roomy.{refused_first, rests, with_cause}
use Rattle.commit.proofs.commit_core.Core.end.Goals as goal

pub may_end-requires-clause-gives : goal.may_end-requires-clause-gives
may_end-requires-clause-gives g c =
    let machine = c.self.inside.machine in
    subst (λ (puts : List Put). BodyGives machine.graph (facts_of machine) c.args.task puts) (sym c.as_slice.ensures)
    (subst (λ (old : Core g.row.D.Denot). BodyGives (graph old) (facts old) c.args.task c.args.puts) (sym c.self.view_is) c.requires.gives)

pub commit_done-requires-clause-legal : goal.commit_done-requires-clause-legal
commit_done-requires-clause-legal g c =
    let machine = c.self.inside.machine in
    let of_slice = subst (λ (end : End). IsLegal machine.graph (facts_of machine) (event_of end c.args.task c.as_slice.result.now)) c.in-Ok-Done.field-0-is c.in-Ok-Done.ensures.legal in
    let of_puts = subst (λ (puts : List Put). IsLegal machine.graph (facts_of machine) (Done c.args.task puts)) c.as_slice.ensures of_slice in
    subst (λ (m : Machine). IsLegal m.graph (facts_of m) (Done c.args.task c.args.puts)) (sym c.may_end.ensures.same) of_puts

pub commit_fault-requires-clause-legal : goal.commit_fault-requires-clause-legal
commit_fault-requires-clause-legal g c =
    let machine = c.self.inside.machine in
    let of_slice = subst (λ (end : End). IsLegal machine.graph (facts_of machine) (event_of end c.args.task c.as_slice.result.now)) c.in-Ok-DoublePut.field-0-is c.in-Ok-DoublePut.ensures.legal in
    subst (λ (m : Machine). IsLegal m.graph (facts_of m) (Stopped c.args.task DoublePut)) (sym c.may_end.ensures.same) of_slice

pub returns-in-Ok-Done-clause-ends : goal.returns-in-Ok-Done-clause-ends
returns-in-Ok-Done-clause-ends g c =
    let before = c.self.inside in
    let old = c.args.self.now in
    let mid : Core g.row.D.Denot = record { vault = before.vault; machine = c.may_end.new.self; in_doubt = events_in before.in_doubt; latest = events_in before.latest; allowance = before.allowance } in
    let looked : ◌≡◌ {A = Core g.row.D.Denot} mid (record { vault = before.vault; machine = before.machine; in_doubt = events_in before.in_doubt; latest = events_in before.latest; allowance = before.allowance }) =
    λ i. record { vault = before.vault; machine = c.may_end.ensures.same i; in_doubt = events_in before.in_doubt; latest = events_in before.latest; allowance = before.allowance }
    in
    let event : Event = Done c.args.task c.args.puts in
    let commits =
    subst (λ (core : Core g.row.D.Denot). Commits {T = committed.the_data} g.D.Disk core c.commit_done.new.self NoCause event c.commit_done.result) (looked ∙ c.self.view_is) c.commit_done.ensures.commits
    in
    record {
      end = event;
      is_end = inl refl;
      commits = with_cause g.D.Disk old c.commit_done.new.self (RefusesEnd (facts old)) event c.commit_done.result commits;
      told = if_ok c.commit_done.result (λ (told : Committed). told ≡ committed.Done) (λ (told : Committed). Tells told event) (λ told is. subst (λ (t : Committed). Tells t event) (sym is) (c.args.task, c.args.puts, refl)) c.commit_done.ensures.told;
    }

pub returns-in-Ok-DoublePut-clause-ends : goal.returns-in-Ok-DoublePut-clause-ends
returns-in-Ok-DoublePut-clause-ends g c =
    let before = c.self.inside in
    let old = c.args.self.now in
    let mid : Core g.row.D.Denot = record { vault = before.vault; machine = c.may_end.new.self; in_doubt = events_in before.in_doubt; latest = events_in before.latest; allowance = before.allowance } in
    let looked : ◌≡◌ {A = Core g.row.D.Denot} mid (record { vault = before.vault; machine = before.machine; in_doubt = events_in before.in_doubt; latest = events_in before.latest; allowance = before.allowance }) =
    λ i. record { vault = before.vault; machine = c.may_end.ensures.same i; in_doubt = events_in before.in_doubt; latest = events_in before.latest; allowance = before.allowance }
    in
    let event : Event = Stopped c.args.task DoublePut in
    let commits =
    subst (λ (core : Core g.row.D.Denot). Commits {T = committed.the_data} g.D.Disk core c.commit_fault.new.self NoCause event c.commit_fault.result) (looked ∙ c.self.view_is) c.commit_fault.ensures.commits
    in
    record {
      end = event;
      is_end = inr refl;
      commits = with_cause g.D.Disk old c.commit_fault.new.self (RefusesEnd (facts old)) event c.commit_fault.result commits;
      told = if_ok c.commit_fault.result (λ (told : Committed). told ≡ committed.Stopped DoublePut) (λ (told : Committed). Tells told event) (λ told is. subst (λ (t : Committed). Tells t event) (sym is) (c.args.task, refl)) c.commit_fault.ensures.told;
    }

pub returns-in-Err-clause-ends : goal.returns-in-Err-clause-ends
returns-in-Err-clause-ends g c =
    let old = c.args.self.now in
    let new = c.release.new.self in
    let event : Event = Done c.args.task c.args.puts in
    let why = subst (λ (core : Core g.row.D.Denot). RefusesEnd (facts core) c.in-Err.refusal) c.self.view_is c.in-Err.ensures.refused in
    let illegal = subst (λ (core : Core g.row.D.Denot). IsLegal (graph core) (facts core) event → ⊥) c.self.view_is (c.in-Err.ensures.illegal event) in
    let vault : new.vault ≡ old.vault = c.release.ensures.vault ∙ ap (λ (core : Core g.row.D.Denot). core.vault) c.self.view_is in
    record {
      end = event;
      is_end = inl refl;
      commits =
          refused_first g.D.Disk old new (RefusesEnd (facts old)) event (Refused c.in-Err.refusal)
          (c.requires.working, why) (λ legal. absurd (illegal legal)) (ap (λ (v : Vault g.row.D.Denot). v.halted) vault)
          (λ honest working. rests g.D.Disk old new (event ∷ []) ((c.stores_go_on.ensures.rest honest).held) ((c.stores_go_on.ensures.gates honest).rest) (c.is_kept.ensures.kept honest) working vault);
      told = tt;
    }
