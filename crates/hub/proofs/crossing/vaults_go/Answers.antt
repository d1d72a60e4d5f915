use denote.Param.{param}
use denote.Param.Send.{sendable}
use denote.Param.SendFields.{declared_send, as_row_send}
use Rattle.std.proofs.Crossing.{crosses}
use Rattle.vault.specs.contracts.vault.Vault as of_vault
use Rattle.hub.proofs.crossing.vaults_go.Goals as goal

pub returns : goal.returns
returns g c = declared_send (of_vault.the_type (param 0 g.row.D)) (search (as_row_send, sendable, crosses) depth 20)
