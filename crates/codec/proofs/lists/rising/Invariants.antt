use Rattle.std.proofs.Common.{◌≡◌, ◌++◌, length}
use Rattle.codec.proofs.lists.rising.Given as goal

abbrev pub invariant-loop-elements : goal.invariant-loop-elements
invariant-loop-elements g l = (l.initial.list.elements ≡ l.elements.items ++ l.list.elements) × (l.initial.list.ends ≡ l.list.ends)

abbrev pub decreases-loop-elements : goal.decreases-loop-elements
decreases-loop-elements g l = length l.list.elements
