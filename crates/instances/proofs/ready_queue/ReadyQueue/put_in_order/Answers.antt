use Rattle.std.proofs.Common.{subst, List, ℤ}
use Rattle.std.specs.List.Sorted.{IsPermutation}
use Rattle.std.proofs.lemmas.List.Sorted.{IsPermutation-append_left}
use Rattle.instances.proofs.ready_queue.ReadyQueue.put_in_order.Goals as goal

pub returns-clause-keys : goal.returns-clause-keys
returns-clause-keys c =
    IsPermutation-append_left c.args.self.now.handed.items _ _
    (subst (λ (queued : List (List ℤ)). IsPermutation queued c.pass_smaller-place.new.queued.items) c.push_front_reserved.ensures.items c.pass_smaller-place.ensures.keys)
