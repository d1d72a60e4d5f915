-- The numbers of the faults in messages.
use Rattle.std.specs.Prelude.{ℕ}
use Rattle.script.specs.declared.error.ScriptFault.{ScriptFault}
use Rattle.script.specs.declared.error.ScriptFault.TheVariants.{Syntax, Number, UnknownName, Arity, TooLarge}

abbrev pub fault_number : ScriptFault → ℕ
fault_number Syntax = 1
fault_number Number = 2
fault_number UnknownName = 3
fault_number Arity = 4
fault_number TooLarge = 5
