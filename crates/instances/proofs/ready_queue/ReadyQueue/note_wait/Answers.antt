use Rattle.std.proofs.Common.{◌∙◌, ap, subst}
use Rattle.std.specs.List.Sorted.{IsPermutation}
use Rattle.std.proofs.lemmas.List.Sorted.{IsPermutation-append_left}
use Rattle.instances.proofs.ready_queue.ReadyQueue.note_wait.Goals as goal

pub returns-then-is_due-clause-keys : goal.returns-then-is_due-clause-keys
returns-then-is_due-clause-keys c =
    let sorted = subst (λ keys. IsPermutation keys c.sort_unstable.new.self.items) (c.into_vec-keys.ensures.items ∙ ap (λ queue. queue.items) c.replace.ensures.value) c.sort_unstable.ensures.permutation in
    rw c.from_vec.ensures.items (IsPermutation-append_left c.args.self.now.handed.items c.args.self.now.queued.items c.sort_unstable.new.self.items sorted)
