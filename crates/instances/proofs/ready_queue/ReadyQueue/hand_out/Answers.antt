use Rattle.std.proofs.Common.{◌++◌}
use Rattle.std.proofs.lemmas.List.Sorted.{IsPermutation-refl}
use Rattle.instances.proofs.Queued.{handed_out}
use Rattle.instances.proofs.ready_queue.ReadyQueue.hand_out.Goals as goal

pub returns-clause-keys : goal.returns-clause-keys
returns-clause-keys c = rw (c.in-Some.ensures.items, c.push_back_reserved.ensures.items, c.reserve.ensures.items) (handed_out c.pop_front.new.self.items c.args.self.now.handed.items c.in-Some.key)

pub returns-clause-handed : goal.returns-clause-handed
returns-clause-handed c = record {
  others = c.pop_front.new.self.items ++ c.args.self.now.handed.items;
  taken = rw c.in-Some.ensures.items (IsPermutation-refl _);
}
