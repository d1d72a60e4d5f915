use Rattle.graph.proofs.Faultless.{fault_passed_on}
use Rattle.graph.proofs.Checking.{first_of_parameters, of_variables}
use Rattle.graph.proofs.steps.names_differ.Goals as goal

pub returns-in_err-add_names : goal.returns-in_err-add_names
returns-in_err-add_names c =
    fault_passed_on _ _ c.from_residual.result _ c.from_residual.ensures.1
    (first_of_parameters c.args.step.now.parameters.items c.args.step.now.variables.items _ (rw (c.new-names.ensures, c.deref.ensures.value) at c.in_err-add_names.ensures.faults))

pub returns : goal.returns
returns c =
    let none = rw (c.new-names.ensures, c.deref.ensures.value) at c.in_ok-add_names.ensures.faults in
    let added = rw (c.new-names.ensures, c.deref.ensures.value) at c.in_ok-add_names.ensures.added in
    rw (of_variables c.args.step.now.parameters.items c.args.step.now.variables.items none) (rw (c.deref-2.ensures.value, added) at c.add_names-2.ensures.faults)
