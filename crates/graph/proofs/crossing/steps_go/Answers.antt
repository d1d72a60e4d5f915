use denote.Param.Send.{sendable}
use denote.Param.SendFields.{declared_send, as_row_send}
use Rattle.std.proofs.Crossing.{crosses}
use Rattle.graph.specs.contracts.graph.Prescribed as of_step
use Rattle.graph.proofs.crossing.steps_go.Goals as goal

pub returns : goal.returns
returns c = declared_send of_step.the_type (search (as_row_send, sendable, crosses, c.bodies_go.ensures) depth 20)
