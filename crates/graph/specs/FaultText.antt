-- The number of each fault of a graph text, and the text of a fault.
use Rattle.std.specs.Prelude.{ℕ, ◌++◌, codes}
use Rattle.std.specs.Fmt.{decimal}
use Rattle.steptree.specs.declared.checker.CheckError.{CheckError}
use Rattle.steptree.specs.declared.checker.CheckError.TheVariants as check
use Rattle.steptree.specs.Names.{Text}
use Rattle.graph.specs.declared.fault.GraphError.{GraphError}
use Rattle.graph.specs.declared.fault.GraphError.TheVariants as error
use Rattle.graph.specs.declared.fault.GraphFault.{GraphFault}

abbrev pub error_number : GraphError → ℕ
error_number error.NotAscii = 1
error_number error.Syntax = 2
error_number error.Redeclared = 3
error_number error.UnknownName = 4
error_number error.Arity = 5
error_number error.NoPrescriber = 6
error_number error.TwoPrescribers = 7
error_number error.StepMissing = 8
error_number error.StepTwice = 9
error_number error.TooLarge = 10
error_number (error.Check kind) = 11
error_number error.NoMemory = 12

abbrev pub check_number : CheckError → ℕ
check_number check.UnknownName = 1
check_number check.Arity = 2
check_number check.UndeclaredRead = 3
check_number check.UndeclaredPut = 4
check_number check.NoMemory = 5

-- the number; a fault of a body has its own number after a dot
abbrev pub error_text : GraphError → Text
error_text (error.Check kind) = codes "11." ++ decimal (check_number kind)
error_text other = decimal (error_number other)

-- the number, the line and the column
abbrev pub fault_text : GraphFault → Text
fault_text fault = error_text fault.error ++ codes " at " ++ decimal fault.line ++ codes ":" ++ decimal fault.column
