use Rattle.syntax.specs.Parsed.{left}
use Rattle.syntax.proofs.StepParts.{parameter_list, parameters_read, parameters_stop}
use Rattle.syntax.proofs.Returned.{as_ok, as_err}
use Rattle.syntax.proofs.step_names.parameters.Goals as goal

pub returns-clause-stops : goal.returns-clause-stops
returns-clause-stops c = as_err c.listed.result _ _ c.listed.ensures.stops (λ stop stops.
    parameters_stop (left c.args.cursor.now) (left c.no_parameters.new.cursor) (left c.listed.new.cursor) stop c.if-no_parameters.ensures.taken (stops parameter_list))

pub returns-clause-reads : goal.returns-clause-reads
returns-clause-reads c = as_ok c.listed.result _ _ c.listed.ensures.reads (λ names read.
    parameters_read names.items (left c.args.cursor.now) (left c.no_parameters.new.cursor) (left c.listed.new.cursor) c.if-no_parameters.ensures.taken (read parameter_list))
