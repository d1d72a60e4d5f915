use Rattle.std.proofs.Common.{◌≡◌, length, take, drop}
use Rattle.terms.specs.declared.key.TheConstants.{MAX_COMPONENTS}
use Rattle.steptree.specs.Values.{values_of}
use Rattle.steplang.proofs.Values.{prepended}
use Rattle.steplang.proofs.value.evaluate_key.Given as goal

-- the values so far, with those of the expressions that are left after them
abbrev pub invariant-loop-index : goal.invariant-loop-index
invariant-loop-index l = (length l.values ≡ MAX_COMPONENTS)
    × (values_of l.fn.components l.variables ≡ prepended (take l.index l.values) (values_of (drop l.index l.expressions) l.variables))
