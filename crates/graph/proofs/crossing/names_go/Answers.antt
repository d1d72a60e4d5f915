use denote.Param.{param}
use denote.Param.Send.{sendable, view_send}
use denote.Param.SendFields.{declared_send, as_row_send}
use Rattle.std.proofs.Crossing.{crosses}
use Rattle.graph.specs.contracts.numbered.Numbered.TheInside as inside
use Rattle.graph.proofs.crossing.names_go.Goals as goal

pub returns : goal.returns
returns g c = view_send _ _ _ _ _ (declared_send (inside.the_type (param 0 g.row.V)) (search (as_row_send, sendable, crosses, c.goes-2.ensures) depth 20))
