use denote.Param.{param}
use denote.Param.Send.{sendable}
use denote.Param.SendFields.{declared_sync, as_row_sync}
use Rattle.std.proofs.Crossing.{crosses}
use Rattle.hub.specs.contracts.hub.Hub as of_hub
use Rattle.hub.proofs.crossing.hubs_cross.Goals as goal

pub returns : goal.returns
returns g c = declared_sync (of_hub.the_type (param 0 g.row.J) (param 1 g.row.D) g.J.Naming g.D.Disk) (search (as_row_sync, sendable, crosses, c.is_shared.ensures, c.is_shared-2.ensures, c.is_shared-3.ensures, c.is_shared-4.ensures) depth 20)
