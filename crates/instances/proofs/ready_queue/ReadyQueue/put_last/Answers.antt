use Rattle.instances.proofs.Queued.{joined_last}
use Rattle.instances.proofs.ready_queue.ReadyQueue.put_last.Goals as goal

pub returns-clause-keys : goal.returns-clause-keys
returns-clause-keys c = rw c.push_back_reserved.ensures.items (joined_last c.args.self.now.queued.items c.args.self.now.handed.items c.args.key)
