use Rattle.std.proofs.Common.{sym, subst}
use Rattle.std.specs.List.Sorted.{IsPermutation}
use Rattle.instances.specs.Queue.{keys}
use Rattle.instances.proofs.Queued.{given_back}
use Rattle.instances.proofs.ready_queue.ReadyQueue.give_back.Goals as goal

pub returns-clause-keys : goal.returns-clause-keys
returns-clause-keys c =
    subst (IsPermutation (keys c.args.self.now)) (sym c.put_first.ensures.keys) (rw c.in-Some.ensures.items (given_back c.args.self.now.queued.items c.pop_back.new.self.items c.in-Some.key))
