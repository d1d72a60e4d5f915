use Rattle.crossbeam_deque.specs.Handles.{worker_port}
use Rattle.deques.specs.Deque.{logged}
use Rattle.deques.proofs.Balanced.{pops, takes}
use Rattle.deques.proofs.deque.Deque.pop.Goals as goal

pub pop_as-requires-clause-fifo : goal.pop_as-requires-clause-fifo
pop_as-requires-clause-fifo c = λ _. takes (worker_port c.args.self.now.worker) (logged c.args.self.now)

pub pop_as-requires-clause-lifo : goal.pop_as-requires-clause-lifo
pop_as-requires-clause-lifo c = λ _. pops (worker_port c.args.self.now.worker) (logged c.args.self.now)
