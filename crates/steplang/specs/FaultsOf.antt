-- Why an operation has no result.
use Rattle.std.specs.Prelude.{ℤ, pos, if◌then◌else◌}
use Rattle.std.specs.Ordering.{int_eq}
use Rattle.terms.specs.declared.fault.FaultKind.{FaultKind}
use Rattle.terms.specs.declared.fault.FaultKind.TheVariants.{Overflow, DivisionByZero}
use Rattle.steptree.specs.declared.expression.Operator.{Operator}
use Rattle.steptree.specs.declared.expression.Operator.TheVariants as operator

-- the right operand of a division is 0, or the result does not fit in 64 bits
abbrev pub fault_of : Operator → ℤ → FaultKind
fault_of operator.Divide right = if int_eq right (pos 0) then DivisionByZero else Overflow
fault_of operator.Remainder right = if int_eq right (pos 0) then DivisionByZero else Overflow
fault_of operator.Add right = Overflow
fault_of operator.Subtract right = Overflow
fault_of operator.Multiply right = Overflow
fault_of operator.Equal right = Overflow
fault_of operator.NotEqual right = Overflow
fault_of operator.Less right = Overflow
fault_of operator.LessOrEqual right = Overflow
fault_of operator.Greater right = Overflow
fault_of operator.GreaterOrEqual right = Overflow
