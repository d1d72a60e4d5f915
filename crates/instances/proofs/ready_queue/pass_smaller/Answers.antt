use Rattle.std.proofs.Common.{◌∙◌, refl}
use Rattle.std.proofs.lemmas.List.Sorted.{IsPermutation-refl, IsPermutation-trans}
use Rattle.instances.proofs.ready_queue.pass_smaller.Goals as goal

pub loop-place-init : goal.loop-place-init
loop-place-init c = (IsPermutation-refl _, refl)

pub loop-place-preserved : goal.loop-place-preserved
loop-place-preserved c = (IsPermutation-trans _ _ _ c.loop-place.invariant.0 c.swap.ensures.permutation, c.swap.ensures.capacity ∙ c.loop-place.invariant.1)
