use Rattle.std.proofs.Common.{◌-◌, arith, refl}
use Rattle.std.proofs.lemmas.Option.{IfSome_then}
use Rattle.instances.proofs.Queued.{taken_front, taken_handed}
use Rattle.instances.proofs.ready_queue.ReadyQueue.take.Goals as goal

pub returns-then-at-queued-clause-taken : goal.returns-then-at-queued-clause-taken
returns-then-at-queued-clause-taken c =
    IfSome_then c.swap_remove_front.result c.swap_remove_front.ensures.permutation (λ key taken. taken_front c.args.self.now.queued.items c.swap_remove_front.new.self.items c.args.self.now.handed.items key taken)

pub returns-clause-taken : goal.returns-clause-taken
returns-clause-taken c =
    rw c.in_ok-key.ensures.items
    (taken_handed c.args.self.now.queued.items c.args.self.now.handed.items (c.args.at - c.len-queued.result) c.in_ok-key.key (omega (arith, c.in_ok-key.ensures.variant.0 refl, c.args.self.now.handed.ok.0)) c.in_ok-key.ensures.value)
