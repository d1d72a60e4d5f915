use Rattle.std.proofs.Common.{refl}
use Rattle.graph.specs.Parts.{parts_seen}
use Rattle.graph.proofs.Seen.{no_step_value, no_step_name, enough_names}
use Rattle.graph.proofs.canonical_text.step_at.Goals as goal

pub returns-in-Some-value-clause-parameters : goal.returns-in-Some-value-clause-parameters
returns-in-Some-value-clause-parameters c = enough_names (parts_seen c.graph.inside) c.graph.inside.steps.now refl c.args.number c.in-Some-value.step.now c.graph.invariant c.in-Some-value.ensures

pub returns-in-None-value-clause-step : goal.returns-in-None-value-clause-step
returns-in-None-value-clause-step c = rw (← c.graph.view_is) (no_step_value c.graph.inside.steps.now c.args.number c.in-None-value.ensures)

pub returns-in-None-clause-step : goal.returns-in-None-clause-step
returns-in-None-clause-step c = rw (← c.graph.view_is) (no_step_name c.graph.inside.steps.now c.args.number c.in-None.ensures.name)
