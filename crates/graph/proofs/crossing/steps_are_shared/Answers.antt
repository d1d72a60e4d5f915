use denote.Param.Send.{sendable}
use denote.Param.SendFields.{declared_sync, as_row_sync}
use Rattle.std.proofs.Crossing.{crosses}
use Rattle.graph.specs.contracts.graph.Prescribed as of_step
use Rattle.graph.proofs.crossing.steps_are_shared.Goals as goal

pub returns : goal.returns
returns c = declared_sync of_step.the_type (search (as_row_sync, sendable, crosses, c.bodies_are_shared.ensures) depth 20)
