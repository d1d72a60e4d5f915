use denote.Param.{param}
use denote.Param.Send.{sendable, view_sync}
use denote.Param.SendFields.{declared_sync, as_row_sync}
use Rattle.std.proofs.Crossing.{crosses}
use Rattle.graph.specs.contracts.numbered.Numbered.TheInside as inside
use Rattle.graph.proofs.crossing.names_are_shared.Goals as goal

pub returns : goal.returns
returns g c = view_sync _ _ _ _ _ (declared_sync (inside.the_type (param 0 g.row.V)) (search (as_row_sync, sendable, crosses, c.is_shared-2.ensures) depth 20))
