use denote.Param.Send.{sendable, view_send, view_sync}
use denote.Param.SendFields.{declared_send, declared_sync, as_row_send, as_row_sync}
use Rattle.std.proofs.Crossing.{crosses}
use Rattle.graph.specs.contracts.graph.Graph.TheInside as inside
use Rattle.graph.proofs.crossing.graphs_cross.Goals as goal

pub returns-clause-sent : goal.returns-clause-sent
returns-clause-sent c = view_send _ _ _ _ _ (declared_send inside.the_type (search (as_row_send, sendable, crosses, c.names_go.ensures, c.names_go-2.ensures) depth 20 fits 3000))

pub returns-clause-shared : goal.returns-clause-shared
returns-clause-shared c = view_sync _ _ _ _ _ (declared_sync inside.the_type (search (as_row_sync, sendable, crosses, c.names_are_shared.ensures, c.names_are_shared-2.ensures) depth 20 fits 3000))
