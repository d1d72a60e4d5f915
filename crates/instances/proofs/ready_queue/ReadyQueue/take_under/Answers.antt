use Rattle.std.proofs.Common.{arith}
use Rattle.instances.proofs.Queued.{taken_handed, when_some}
use Rattle.instances.proofs.ready_queue.ReadyQueue.take_under.Goals as goal

pub returns-clause-taken : goal.returns-clause-taken
returns-clause-taken c = λ is.
    rw (when_some c.remove-key.result (c.remove-key.ensures.variant.1 (omega (arith, c.in-Some.ensures.0, c.args.self.now.handed.ok.0))) c.remove-key.ensures.items)
    (taken_handed c.args.self.now.queued.items c.args.self.now.handed.items c.in-Some.place c.args.key c.in-Some.ensures.0 c.in-Some.ensures.1)
