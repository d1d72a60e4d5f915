-- The kinds of fault by their numbers.
use Rattle.std.specs.Prelude.{ℕ}
use Rattle.terms.specs.declared.fault.FaultKind.{FaultKind}
use Rattle.terms.specs.declared.fault.FaultKind.TheVariants.{Overflow, DivisionByZero, Budget, DoublePut, TooManyPuts}

abbrev pub fault_number : FaultKind → ℕ
fault_number Overflow = 1
fault_number DivisionByZero = 2
fault_number Budget = 3
fault_number DoublePut = 4
fault_number TooManyPuts = 5
