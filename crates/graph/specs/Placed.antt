-- Faults at positions, of which the first is reported.
use Rattle.std.specs.Prelude.{◌≡◌, ◌⊎◌, List, [], Some, Result, MatchResult, slice_get}
use Rattle.syntax.specs.declared.fault.TreeError.{TreeError}
use Rattle.syntax.specs.declared.fault.TreeError.TheVariants as tree
use Rattle.syntax.specs.declared.fault.TreeFault.{TreeFault}
use Rattle.graph.specs.declared.fault.GraphError.{GraphError}
use Rattle.graph.specs.declared.fault.GraphError.TheVariants as error
use Rattle.graph.specs.declared.fault.PlacedFault.{PlacedFault}
use Rattle.graph.specs.Faults.{At}

-- memory was refused; this has no position
abbrev pub no_memory : PlacedFault
no_memory = record { error = error.NoMemory; position = 0 }

-- the text is too large as a whole
abbrev pub too_large : PlacedFault
too_large = record { error = error.TooLarge; position = 0 }

-- memory was refused, or it is the first of these faults
abbrev pub IsFirst : List At → PlacedFault → Type 0
IsFirst faults fault = (fault ≡ no_memory) ⊎ (slice_get faults 0 ≡ Some (fault.error, fault.position))

-- a value is returned only if there is none of these faults; otherwise the first of them is reported, or that memory was refused
abbrev pub Reports : {X : Type 0} → List At → Result X PlacedFault → Type 0
Reports faults result = MatchResult result (λ value. faults ≡ []) (IsFirst faults)

-- a fault of a text's tree
abbrev pub of_tree : TreeError → GraphError
of_tree tree.Syntax = error.Syntax
of_tree tree.TooLarge = error.TooLarge
of_tree tree.NoMemory = error.NoMemory

abbrev pub placed : TreeFault → PlacedFault
placed fault = record { error = of_tree fault.error; position = fault.place }
