use denote.Param.Send.{sendable}
use denote.Param.SendFields.{declared_send, as_row_send}
use Rattle.std.proofs.Crossing.{crosses}
use Rattle.steptree.specs.contracts.checked.Checked as of_body
use Rattle.graph.proofs.crossing.bodies_go.Goals as goal

pub returns : goal.returns
returns c = declared_send of_body.the_type (search (as_row_send, sendable, crosses, c.goes-4.ensures, c.goes-5.ensures, c.goes-6.ensures) depth 20 fits 3000)
