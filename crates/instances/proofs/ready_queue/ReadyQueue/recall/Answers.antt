use Rattle.std.proofs.Common.{◌∙◌, arith}
use Rattle.std.proofs.lemmas.List.Sorted.{IsPermutation-trans, length_permutation}
use Rattle.instances.proofs.ready_queue.ReadyQueue.recall.Goals as goal

pub loop-preserved : goal.loop-preserved
loop-preserved c = (
  IsPermutation-trans _ _ _ c.loop.invariant.0 c.give_back.ensures.keys,
  c.give_back.ensures.capacity ∙ c.loop.invariant.1,
  omega (arith, length_permutation _ _ c.give_back.ensures.keys, c.give_back.ensures.capacity, c.loop.invariant.2),
)
