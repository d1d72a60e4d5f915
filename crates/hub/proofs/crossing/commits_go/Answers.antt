use denote.Param.Send.{sendable}
use denote.Param.SendFields.{variants_send}
use Rattle.std.proofs.Crossing.{crosses}
use Rattle.commit.specs.contracts.events.Events as of_events
use Rattle.hub.proofs.crossing.commits_go.Goals as goal

pub returns : goal.returns
returns c = variants_send of_events.enum (search (sendable, crosses, c.events_go.ensures) depth 20)
