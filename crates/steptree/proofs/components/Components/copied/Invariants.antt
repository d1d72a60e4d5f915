use Rattle.std.proofs.Common.{◌≡◌, take}
use Rattle.steptree.proofs.components.Components.copied.Given as goal

abbrev pub invariant-loop-expression : goal.invariant-loop-expression
invariant-loop-expression l = l.expressions.items ≡ take l.expression-index l.expression-items
