use Rattle.std.proofs.Common.{[], ◌∷◌}
use Rattle.crossbeam_deque.specs.Handles.{worker_port}
use Rattle.deques.specs.Deque.{logged}
use Rattle.deques.proofs.Balanced.{pushes}
use Rattle.deques.proofs.deque.Deque.push.Goals as goal

pub push_as-requires-clause-pushes : goal.push_as-requires-clause-pushes
push_as-requires-clause-pushes c = pushes (worker_port c.args.self.now.worker) (logged c.args.self.now) (c.args.ticket ∷ [])
