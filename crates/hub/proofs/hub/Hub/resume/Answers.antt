use Rattle.std.proofs.Common.{◌≡◌, ◌∙◌, rules, subst, sym, Option, Some, ℤ, to_z, of_z, w64}
use Rattle.std.proofs.lemmas.Int.{to_z-of_z}
use Rattle.std.proofs.lemmas.Result.{err_from_is_err_and}
use Rattle.steplang.specs.Running.{reads_with}
use Rattle.machine.specs.Machine.{IsValueAt}
use Rattle.machine.specs.Results.{AreItems}
use Rattle.hub.specs.Opening.{facts_behind}
use Rattle.hub.specs.Running.{StopsRun}
use Rattle.hub.proofs.Bodies.{resumes_with, still_waits, stops_again}
use Rattle.hub.proofs.hub.Hub.resume.Goals as goal

pub returns-in_err-value-clause-refused : goal.returns-in_err-value-clause-refused
returns-in_err-value-clause-refused g c =
    let p = err_from_is_err_and c.from_residual.result c.from_residual.ensures.1 in
    let stops : StopsRun g.J.Naming.opening.graph (facts_behind g.J.Naming.opening c.read.new.pass.seen) c.args.run.instance c.in_err-value.field-0.0 =
    stops_again c.facts_are_told_apart.ensures.among c.facts_go_on.ensures.all c.results_are_meant.ensures.stay g.J.Naming.opening c.args.pass.now.seen c.read.new.pass.seen c.read.ensures.seen.0.starts c.args.run c.unwrap-address.result
    c.in_err-value.field-0.0 c.requires (sym c.pending.ensures ∙ c.unwrap-address.ensures) c.in_err-value.ensures.refused
    in
    rw (p.1, p.2) stops

pub go_on-requires-clause-read : goal.go_on-requires-clause-read
go_on-requires-clause-read g c =
    let same : to_z w64 (of_z w64 c.in-Some.value) ≡ c.in-Some.value = to_z-of_z w64 c.in-Some.value (search rules) in
    subst (λ (value : ℤ). AreItems (facts_behind g.J.Naming.opening c.read.new.pass.seen) (reads_with c.args.run.reads c.args.run.awaits (Some value))) (sym same)
    (resumes_with c.facts_are_told_apart.ensures.among c.facts_go_on.ensures.all c.results_are_meant.ensures.stay g.J.Naming.opening c.args.pass.now.seen c.read.new.pass.seen c.read.ensures.seen.0.starts c.args.run c.unwrap-address.result
    c.in-Some.value c.requires (sym c.pending.ensures ∙ c.unwrap-address.ensures)
    (subst (λ (found : Option ℤ). IsValueAt (facts_behind g.J.Naming.opening c.read.new.pass.seen) c.unwrap-address.result found) c.in-Some.is c.in_ok-value.ensures.value))

pub returns-in-None-clause-came : goal.returns-in-None-clause-came
returns-in-None-clause-came g c =
    still_waits c.facts_are_told_apart.ensures.among c.facts_go_on.ensures.all c.results_are_meant.ensures.stay g.J.Naming.opening c.args.pass.now.seen c.read.new.pass.seen c.read.ensures.seen.0.starts c.args.run c.unwrap-address.result
    c.requires (sym c.pending.ensures ∙ c.unwrap-address.ensures)
    (subst (λ (found : Option ℤ). IsValueAt (facts_behind g.J.Naming.opening c.read.new.pass.seen) c.unwrap-address.result found) c.in-None.is c.in_ok-value.ensures.value)
