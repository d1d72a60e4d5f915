use Rattle.std.proofs.Common.{refl, sym, subst}
use Rattle.terms.specs.declared.name.Addr.{Addr}
use Rattle.terms.specs.declared.name.Inst.{Inst}
use Rattle.steptree.specs.Bodies.{Along, Asks}
use Rattle.graph.specs.Fits.{IsAbsent}
use Rattle.machine.specs.Legal.{Needs}
use Rattle.machine.specs.Machine.{facts as facts_of}
use Rattle.machine.specs.Results.{AreItems, IsBodyOf}
use Rattle.commit.specs.Core.{Core, facts, graph}
use Rattle.instances.specs.declared.state.State.TheVariants.{Ready}
use Rattle.commit.specs.Doubt.{events_in}
use Rattle.commit.proofs.Allowed.{behind_look, behind_move}
use Rattle.commit.proofs.Moving.{SameFacts, of_look, of_move}
use Rattle.commit.proofs.Taken.{kept_alike}
use Rattle.commit.proofs.commit_core.Core.park.Goals as goal

pub invariant_of-self : goal.invariant_of-self
invariant_of-self g c =
    let same : SameFacts c.self.inside.machine c.release.new.self = of_move _ _ _ _ c.release.ensures in (
      c.self.invariant.0,
      λ honest.
          kept_alike g.D.Disk (g.met.D.Disk.at_now honest) c.self.inside.vault c.self.inside.machine c.release.new.self (events_in c.self.inside.in_doubt) (events_in c.self.inside.latest) c.self.inside.allowance c.self.inside.allowance
          same.graph same.environment same.facts (c.self.invariant.1 honest),
      behind_move c.self.inside.machine c.release.new.self c.args.task Ready c.self.inside.allowance refl c.release.ensures c.self.invariant.2,
    )

pub invariant_of-self-2 : goal.invariant_of-self-2
invariant_of-self-2 g c =
    let same : SameFacts c.self.inside.machine c.park.new.self = of_look _ _ _ _ c.in_default.ensures.ok in (
      c.self.invariant.0,
      λ honest.
          kept_alike g.D.Disk (g.met.D.Disk.at_now honest) c.self.inside.vault c.self.inside.machine c.park.new.self (events_in c.self.inside.in_doubt) (events_in c.self.inside.latest) c.self.inside.allowance c.self.inside.allowance
          same.graph same.environment same.facts (c.self.invariant.1 honest),
      behind_look c.self.inside.machine c.park.new.self c.args.task _ c.self.inside.allowance c.in_default.ensures.ok c.self.invariant.2,
    )

pub invariant_of-self-in-Err : goal.invariant_of-self-in-Err
invariant_of-self-in-Err g c =
    let same : SameFacts c.self.inside.machine c.park.new.self = of_move _ _ _ _ c.in-Err.ensures.refused.1 in (
      c.self.invariant.0,
      λ honest.
          kept_alike g.D.Disk (g.met.D.Disk.at_now honest) c.self.inside.vault c.self.inside.machine c.park.new.self (events_in c.self.inside.in_doubt) (events_in c.self.inside.latest) c.self.inside.allowance c.self.inside.allowance
          same.graph same.environment same.facts (c.self.invariant.1 honest),
      behind_move c.self.inside.machine c.park.new.self c.args.task Ready c.self.inside.allowance refl c.in-Err.ensures.refused.1 c.self.invariant.2,
    )

pub park-requires-clause-needs : goal.park-requires-clause-needs
park-requires-clause-needs g c =
    let machine = c.self.inside.machine in
    let parked = c.args.parked.now in
    let here =
    subst (λ (old : Core g.row.D.Denot). IsBodyOf (graph old) c.args.task parked.checked.now.body × AreItems (facts old) parked.reads) (sym c.self.view_is) (c.requires.result.body, c.requires.result.reads)
    in
    subst (λ (address : Addr). IsAbsent (facts_of machine) address → Needs machine.graph (facts_of machine) c.args.task address) (sym c.address-address.ensures.address)
    (c.results_are_meant.ensures.needs machine.graph (facts_of machine) c.args.task parked.checked.now.body parked.reads parked.address here.0 here.1
    (subst (λ (i : Inst). Along parked.checked.now.body i.key parked.reads (Asks parked.address)) c.requires.result.instance_is c.address-address.ensures.along))
