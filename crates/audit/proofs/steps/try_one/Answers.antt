use Rattle.std.proofs.Common.{inr, refl, subst, sym}
use Rattle.terms.specs.Facts.{done}
use Rattle.graph.specs.Graph.{Graph}
use Rattle.graph.specs.Fits.{InstanceIsOf}
use Rattle.machine.specs.Marked.{marked}
use Rattle.commit.specs.Came.{IsOutcomeIn}
use Rattle.commit.specs.declared.bodies.Came.TheVariants.{Waits}
use Rattle.commit.specs.declared.outcome.Outcome.TheVariants.{Fault}
use Rattle.audit.specs.Replayed.{CameTo}
use Rattle.audit.proofs.Came.{body_faults, body_needs}
use Rattle.audit.proofs.Forged.{at_fault, waits}
use Rattle.audit.proofs.steps.try_one.Goals as goal

pub run_body-requires : goal.run_body-requires
run_body-requires c = subst (λ (g : Graph). InstanceIsOf g c.args.inst) (sym c.requires.graph) (c.is_kept.ensures.fits.of_graph (done c.args.inst) c.requires.done)

pub returns-in-Ended-Fault-clause-tried : goal.returns-in-Ended-Fault-clause-tried
returns-in-Ended-Fault-clause-tried c =
    let g = c.args.store.now.graph in
    let X = marked c.args.marks.now in
    let bad = c.in-Ended-Fault.bad in
    let came = subst (λ (x : Graph). IsOutcomeIn x X c.args.inst (Fault bad)) c.requires.graph (rw (c.in-Ended-Fault.is, c.in-Ended-Fault.field-0-is) at c.in_ok-given.ensures) in
    let faults = body_faults c.results_are_meant.ensures.faults g X c.args.inst bad came in (
      refl,
      inr (at_fault c.facts_are_told_apart.ensures.one c.facts_are_told_apart.ensures.among c.ends_once.ensures.one c.args.store.now c.args.marks.now c.requires.replayed c.args.inst bad.kind faults),
    )

pub returns-in-Waits-clause-tried : goal.returns-in-Waits-clause-tried
returns-in-Waits-clause-tried c =
    let g = c.args.store.now.graph in
    let X = marked c.args.marks.now in
    let parked = c.in-Waits.parked in
    let came = subst (λ (x : Graph). CameTo x c.args.marks.now c.args.inst (Waits parked)) c.requires.graph (rw c.in-Waits.is at c.in_ok-given.ensures) in
    let needs = body_needs c.results_are_meant.ensures.needs g X c.args.inst parked came.0 came.1 c.address-address.ensures.along in (
      refl,
      inr (waits c.facts_are_told_apart.ensures.one c.facts_are_told_apart.ensures.among c.ends_once.ensures.one c.args.store.now c.args.marks.now c.requires.replayed c.args.inst parked.address needs),
    )
