use Rattle.std.proofs.Common.{◌≡◌, ◌∙◌, inl, refl, subst, sym, true, Err}
use Rattle.terms.specs.declared.name.Inst.{Inst}
use Rattle.terms.specs.declared.event.Event.{Event}
use Rattle.terms.specs.declared.event.Event.TheVariants.{Done, Stopped}
use Rattle.vault.specs.declared.error.VaultError.TheVariants.{Halted}
use Rattle.commit.specs.declared.error.CoreError.TheVariants.{Store}
use Rattle.commit.specs.declared.outcome.Outcome.{Outcome}
use Rattle.commit.specs.declared.outcome.Outcome.TheVariants.{Gave, Fault}
use Rattle.commit.specs.Core.{Core, is_halted}
use Rattle.commit.specs.Runs.{Ends}
use Rattle.instances.specs.declared.state.State.TheVariants.{Ready}
use Rattle.commit.specs.Doubt.{events_in}
use Rattle.commit.specs.Outcome.{IsEndOf}
use Rattle.commit.proofs.Allowed.{behind_move, some_left}
use Rattle.commit.proofs.Moving.{SameFacts, of_move}
use Rattle.commit.proofs.Putting.{ends_halted}
use Rattle.commit.proofs.Running.{finished, of_fault, of_given}
use Rattle.commit.proofs.Taken.{kept_alike}
use Rattle.commit.proofs.commit_core.Core.finish.Goals as goal

pub invariant_of-self : goal.invariant_of-self
invariant_of-self g c =
    let same : SameFacts c.self.inside.machine c.release.new.self = of_move _ _ _ _ c.release.ensures in (
      c.self.invariant.0,
      λ honest.
          kept_alike g.D.Disk (g.met.D.Disk.at_now honest) c.self.inside.vault c.self.inside.machine c.release.new.self (events_in c.self.inside.in_doubt) (events_in c.self.inside.latest) c.self.inside.allowance c.self.inside.allowance
          same.graph same.environment same.facts (c.self.invariant.1 honest),
      behind_move c.self.inside.machine c.release.new.self c.args.task Ready c.self.inside.allowance refl c.release.ensures c.self.invariant.2,
    )

-- some end of the instance
an_end : (outcome : Outcome) (instance : Inst) → (end : Event) × IsEndOf outcome instance end
an_end (Gave given) instance = (Done instance given.puts, inl refl)
an_end (Fault bad) instance = (Stopped instance bad.kind, refl)

pub returns-then-is_halted : goal.returns-then-is_halted
returns-then-is_halted g c =
    let before : Core g.row.D.Denot = record { vault = c.self.inside.vault; machine = c.self.inside.machine; in_doubt = events_in c.self.inside.in_doubt; latest = events_in c.self.inside.latest; allowance = c.self.inside.allowance } in
    let new : Core g.row.D.Denot = record { vault = c.self.inside.vault; machine = c.release.new.self; in_doubt = events_in c.self.inside.in_doubt; latest = events_in c.self.inside.latest; allowance = c.self.inside.allowance } in
    let end = an_end c.args.outcome c.args.task in
    let halted : is_halted before ≡ true = sym c.is_halted.ensures ∙ c.if-is_halted.true in
    subst (λ (old : Core g.row.D.Denot). Ends g.D.Disk old new c.args.task c.args.outcome (Err (Store Halted))) c.self.view_is
    (ends_halted g.D.Disk before new c.args.task c.args.outcome end.0 end.1 halted c.release.ensures refl refl refl refl)

pub returns-in-Gave : goal.returns-in-Gave
returns-in-Gave g c =
    let old = c.args.self.now in
    let new = c.end-ended.new.self in
    let left = some_left c.runs_are_counted.ensures.one old.machine c.args.task old.allowance c.requires.running c.is_kept.ensures.allowed in
    let finishes =
    of_given g.D.Disk old new c.args.task c.args.outcome c.end-ended.result
    c.in-Gave.given c.into_puts.result c.in-Gave.is c.into_puts.ensures.puts c.end-ended.ensures.ends
    in
    record {
      finishes = finishes;
      err = c.end-ended.ensures.err;
      halts = c.end-ended.ensures.halts;
      runs = λ working.
          finished g.D.Disk
          (λ _. c.stores_go_on.ensures.calls.append_leaves) (λ on. (c.stores_go_on.ensures.rest on).held) (λ on. (c.stores_go_on.ensures.rest on).commits) (λ on. (c.stores_go_on.ensures.gates on).rest)
          old new c.args.task c.args.outcome c.end-ended.result
          working (c.is_kept.ensures.settled working) left c.is_kept.ensures.kept finishes c.end-ended.ensures.err c.end-ended.ensures.halts c.is_kept-in-Gave.ensures.kept;
    }

pub returns-in-Fault : goal.returns-in-Fault
returns-in-Fault g c =
    let old = c.args.self.now in
    let new = c.stop-ended.new.self in
    let left = some_left c.runs_are_counted.ensures.one old.machine c.args.task old.allowance c.requires.running c.is_kept.ensures.allowed in
    let finishes =
    of_fault g.D.Disk old new c.args.task c.args.outcome c.stop-ended.result
    c.in-Fault.bad c.kind.result c.in-Fault.is c.kind.ensures.kind c.stop-ended.ensures.commits c.stop-ended.ensures.told
    in
    record {
      finishes = finishes;
      err = c.stop-ended.ensures.err;
      halts = c.stop-ended.ensures.halts;
      runs = λ working.
          finished g.D.Disk
          (λ _. c.stores_go_on.ensures.calls.append_leaves) (λ on. (c.stores_go_on.ensures.rest on).held) (λ on. (c.stores_go_on.ensures.rest on).commits) (λ on. (c.stores_go_on.ensures.gates on).rest)
          old new c.args.task c.args.outcome c.stop-ended.result
          working (c.is_kept.ensures.settled working) left c.is_kept.ensures.kept finishes c.stop-ended.ensures.err c.stop-ended.ensures.halts c.is_kept-in-Fault.ensures.kept;
    }
