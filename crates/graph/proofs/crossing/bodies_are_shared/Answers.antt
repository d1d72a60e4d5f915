use denote.Param.Send.{sendable}
use denote.Param.SendFields.{declared_sync, as_row_sync}
use Rattle.std.proofs.Crossing.{crosses}
use Rattle.steptree.specs.contracts.checked.Checked as of_body
use Rattle.graph.proofs.crossing.bodies_are_shared.Goals as goal

pub returns : goal.returns
returns c = declared_sync of_body.the_type (search (as_row_sync, sendable, crosses, c.is_shared-4.ensures, c.is_shared-5.ensures, c.is_shared-6.ensures) depth 20 fits 3000)
