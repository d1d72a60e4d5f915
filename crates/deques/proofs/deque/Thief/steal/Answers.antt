use Rattle.crossbeam_deque.specs.Handles.{view}
use Rattle.deques.proofs.Balanced.{takes}
use Rattle.deques.proofs.deque.Thief.steal.Goals as goal

pub steal_as-requires-clause-takes : goal.steal_as-requires-clause-takes
steal_as-requires-clause-takes c = takes c.loop.pass.id (view c.loop.pass)
