use Rattle.std.proofs.Common.{◌↔◌, IsTrue, MatchBool, inl, nat_eq, subst, sym}
use Rattle.std.proofs.lemmas.Bool.{false≢true}
use Rattle.terms.specs.declared.fault.FaultKind.{FaultKind}
use Rattle.terms.specs.Fault.{fault_number}
use Rattle.graph.specs.Graph.{Graph}
use Rattle.graph.specs.Fits.{AreNew, InstanceIsOf}
use Rattle.machine.specs.Legal.{Conflicts, IsAtFault}
use Rattle.machine.specs.Machine.{environment}
use Rattle.machine.specs.Marked.{marked}
use Rattle.machine.specs.Meaning.{BodyFaults}
use Rattle.commit.specs.Came.{IsOutcomeIn}
use Rattle.commit.specs.declared.bodies.Came.TheVariants.{Waits}
use Rattle.commit.specs.declared.outcome.Outcome.TheVariants.{Fault, Gave}
use Rattle.audit.specs.Replayed.{CameTo}
use Rattle.audit.proofs.Came.{body_faults, body_gives, body_needs, double_put, gave_other, if_ok_too, number_itself, same_fault, same_number, waits_for}
use Rattle.audit.proofs.fault.is_at_fault.Goals as goal

pub run_body-requires : goal.run_body-requires
run_body-requires c = subst (λ (g : Graph). InstanceIsOf g c.args.inst) (sym c.requires.graph) c.requires.instance

pub returns-in-DoublePut : goal.returns-in-DoublePut
returns-in-DoublePut c =
    let g = c.args.store.now.graph in
    let X = marked c.args.marks.now in
    let given = c.in-Ended-Gave.given in
    let came = subst (λ (x : Graph). IsOutcomeIn x X c.args.inst (Gave given)) c.requires.graph (rw (c.in-Ended-Gave.is, c.in-Ended-Gave.field-0-is) at c.in_ok-given.ensures) in
    let gives = body_gives c.results_are_meant.ensures.gives g X c.args.inst given came in
    if_ok_too (λ is. MatchBool is (Conflicts X given.puts) (AreNew X given.puts)) (λ is. IsTrue is ↔ IsAtFault g X c.args.inst c.args.kind) c.conflict.result
    (λ is found. double_put c.facts_are_told_apart.ensures.one c.facts_are_told_apart.ensures.among c.ends_once.ensures.one g (environment c.args.store.now) X c.requires.replayed.reached c.args.inst given.puts c.args.kind is c.in-DoublePut.is gives found)
    (rw (c.as_slice.ensures, c.puts.ensures.puts) at c.conflict.ensures)

pub returns-in-Ended-Gave : goal.returns-in-Ended-Gave
returns-in-Ended-Gave c =
    let g = c.args.store.now.graph in
    let X = marked c.args.marks.now in
    let given = c.in-Ended-Gave.given in
    let came = subst (λ (x : Graph). IsOutcomeIn x X c.args.inst (Gave given)) c.requires.graph (rw (c.in-Ended-Gave.is, c.in-Ended-Gave.field-0-is) at c.in_ok-given.ensures) in
    let gives = body_gives c.results_are_meant.ensures.gives g X c.args.inst given came in (
      λ no. absurd (false≢true no),
      λ at. absurd (gave_other c.facts_are_told_apart.ensures.one c.facts_are_told_apart.ensures.among c.ends_once.ensures.one g (environment c.args.store.now) X c.requires.replayed.reached c.args.inst given.puts c.args.kind gives c.in_default.not-DoublePut at),
    )

pub returns-in-Ended-Fault : goal.returns-in-Ended-Fault
returns-in-Ended-Fault c =
    let g = c.args.store.now.graph in
    let X = marked c.args.marks.now in
    let bad = c.in-Ended-Fault.bad in
    let told = c.facts_are_told_apart.ensures.one in
    let came = subst (λ (x : Graph). IsOutcomeIn x X c.args.inst (Fault bad)) c.requires.graph (rw (c.in-Ended-Fault.is, c.in-Ended-Fault.field-0-is) at c.in_ok-given.ensures) in
    let faults = body_faults c.results_are_meant.ensures.faults g X c.args.inst bad came in
    rw (c.number.ensures.number, c.number-in-Ended-Fault.ensures.number, c.kind.ensures.kind) (
      λ same. inl (subst (λ (kind : FaultKind). BodyFaults g X c.args.inst kind) (same_number told c.args.inst bad.kind c.args.kind same) faults),
      λ at. subst (λ (kind : FaultKind). IsTrue (nat_eq (fault_number bad.kind) (fault_number kind)))
          (same_fault told c.facts_are_told_apart.ensures.among c.ends_once.ensures.one g (environment c.args.store.now) X c.requires.replayed.reached c.args.inst bad.kind c.args.kind faults at) (number_itself told c.args.inst bad.kind),
    )

pub returns : goal.returns
returns c =
    let g = c.args.store.now.graph in
    let X = marked c.args.marks.now in
    let parked = c.in-Waits.parked in
    let came = subst (λ (x : Graph). CameTo x c.args.marks.now c.args.inst (Waits parked)) c.requires.graph (rw c.in-Waits.is at c.in_ok-given.ensures) in
    let needs = body_needs c.results_are_meant.ensures.needs g X c.args.inst parked came.0 came.1 c.address.ensures.along in (
      λ no. absurd (false≢true no),
      λ at. absurd (waits_for c.facts_are_told_apart.ensures.one c.facts_are_told_apart.ensures.among c.ends_once.ensures.one g (environment c.args.store.now) X c.requires.replayed.reached c.args.inst parked.address c.args.kind needs at),
    )
