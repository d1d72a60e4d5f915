use Rattle.std.proofs.Common.{◌≡◌}
use Rattle.std.specs.FinMap.{FinMap, entries}
use Rattle.terms.specs.Key.{key_cmp}
use Rattle.maps.specs.Marked.{AreUnmarked}
use Rattle.instances.specs.declared.standing.Standing.{Standing}
use Rattle.instances.proofs.Settling.{Settles}
use Rattle.instances.proofs.done_maps.mark_others.Given as goal

-- what is left of the walk is not marked yet
abbrev pub invariant-loop-key : goal.invariant-loop-key
invariant-loop-key l = (standings : FinMap key_cmp Standing) → l.fn.walk ≡ entries standings → AreUnmarked standings l.fn.marks → Settles standings l.key-iterator l.marks
