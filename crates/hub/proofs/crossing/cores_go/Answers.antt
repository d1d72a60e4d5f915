use denote.Param.{param}
use denote.Param.Send.{sendable, view_send}
use denote.Param.SendFields.{declared_send, as_row_send}
use Rattle.std.proofs.Crossing.{crosses}
use Rattle.commit.specs.contracts.commit_core.Core.TheInside as inside
use Rattle.hub.proofs.crossing.cores_go.Goals as goal

pub returns : goal.returns
returns g c = view_send _ _ _ _ _ (declared_send (inside.the_type (param 0 g.row.D) g.D.Disk) (search (as_row_send, sendable, crosses, c.goes.ensures, c.vaults_go.ensures, c.commits_go.ensures) depth 20))
