-- The statements of a block one by one.
use Rattle.std.specs.Prelude.{◌≡◌, ◌⊎◌, ◌++◌, Bool, List, [], map, Some, Result, MatchResult, slice_get}
use Rattle.steptree.specs.Tree.{NamedExpression}
use Rattle.steptree.specs.Simple.{NumberedSimple, NamedSimple, Block, NamedBlock}
use Rattle.steptree.specs.SeenBlocks.{NumberedStatement, stated}
use Rattle.steptree.specs.declared.checker.CheckError.{CheckError}
use Rattle.steptree.specs.declared.checker.CheckFault.{CheckFault}
use Rattle.steptree.specs.Nameable.{Collection, Nameable}
use Rattle.steptree.specs.declared.step.Name.{Name}
use Rattle.steptree.specs.CheckFaults.{block_faults, expression_faults, key_faults, known_faults, no_memory, simple_faults, variable_faults}
use Rattle.steptree.specs.Names.{Text, number_of}
use Rattle.steptree.specs.Resolved.{IsSimple, IsBlock}
use Rattle.steptree.specs.Sheet.{AllowsAll, KeepsTo}

abbrev pub texts : List Name → List Text
texts names = map (λ name. name.text.now) names

-- memory was refused, or `fault` is the first of these faults
abbrev pub IsFirst : List CheckFault → CheckFault → Type 0
IsFirst faults fault = (fault ≡ no_memory) ⊎ (slice_get faults 0 ≡ Some fault)

-- if there is a value, then there are no faults; otherwise the error is the first fault, or memory was refused
abbrev pub Reports : {X : Type 0} → List CheckFault → Result X CheckFault → Type 0
Reports faults result = MatchResult result (λ value. faults ≡ []) (IsFirst faults)

-- the same of the faults of a choice, and of a loop, with those of their blocks
abbrev pub ReportsChoice : {X : Type 0} → List Text → Nameable → NamedExpression → NamedBlock → NamedBlock → Result X CheckFault → Type 0
ReportsChoice names sheet condition first second = Reports (expression_faults names condition ++ block_faults names sheet first ++ block_faults names sheet second)

abbrev pub ReportsLoop : {X : Type 0} → List Text → Nameable → Name → NamedExpression → NamedExpression → NamedBlock → Result X CheckFault → Type 0
ReportsLoop names sheet variable from to block =
    Reports (variable_faults names variable ++ expression_faults names from ++ expression_faults names to ++ block_faults names sheet block)

-- the same of the faults of a use of a collection by its name: it is not known, may not be used so, or has keys of another number of components
abbrev pub ReportsUse : {X : Type 0} → List Collection → List Bool → CheckError → Name → List NamedExpression → Result X CheckFault → Type 0
ReportsUse collections allowed error name components = Reports (known_faults collections allowed error name components (number_of collections name))

-- the same of the faults of a key: of its collection, and then of its components
abbrev pub ReportsKey : {X : Type 0} → List Text → List Collection → List Bool → CheckError → Name → List NamedExpression → Result X CheckFault → Type 0
ReportsKey names collections allowed error name components = Reports (key_faults names collections allowed error name components)

-- the statement is the one with names, whatever follows the two, and the sheet allows it
pub record IsStatement (names : List Text) (sheet : Nameable) (named : NamedBlock → NamedBlock) (statement : NumberedStatement) : Type 0 where
  pub resolves : (block : NamedBlock) (rest : Block) → IsBlock names sheet block rest → IsBlock names sheet (named block) (stated statement rest)
  pub keeps : (rest : Block) → KeepsTo sheet rest → KeepsTo sheet (stated statement rest)

-- the same of a simple statement
pub record IsAllowedSimple (names : List Text) (sheet : Nameable) (named : NamedSimple) (statement : NumberedSimple) : Type 0 where
  pub resolves : IsSimple names sheet named statement
  pub keeps : AllowsAll sheet statement

-- the same of the faults of a simple statement
abbrev pub ReportsSimple : {X : Type 0} → List Text → Nameable → NamedSimple → Result X CheckFault → Type 0
ReportsSimple names sheet statement = Reports (simple_faults names sheet statement)
