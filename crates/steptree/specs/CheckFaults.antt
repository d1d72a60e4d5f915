-- What is at fault in the body of a step, from the left.
use Rattle.std.specs.Prelude.{ℕ, Bool, true, false, not, is_none, option_map, List, [], ◌∷◌, ◌++◌, flat_map, length, Option, Some, None, get_or, slice_get, ◌==◌, if◌then◌else◌}
use Rattle.steptree.specs.declared.checker.CheckError.{CheckError}
use Rattle.steptree.specs.declared.checker.CheckError.TheVariants.{UnknownName, Arity, UndeclaredRead, UndeclaredPut, NoMemory}
use Rattle.steptree.specs.declared.checker.CheckFault.{CheckFault}
use Rattle.steptree.specs.Nameable.{Collection, Nameable}
use Rattle.steptree.specs.declared.step.Name.{Name}
use Rattle.steptree.specs.Tree.{NamedExpression, Number, Variable, Negation, Operation, End, Do, If, For}
use Rattle.steptree.specs.Simple.{NamedSimple, NamedBlock, NamedUse, Target, Value, ItemRead, ItemPut, TagPut, uses_of}
use Rattle.steptree.specs.declared.step.Step.{Step}
use Rattle.steptree.specs.Names.{Text, names_of, slot_of, number_of}

-- memory was refused, at no place
abbrev pub no_memory : CheckFault
no_memory = record { error = NoMemory; place = 0 }

-- a fault at a name, if `holds` is true
abbrev pub fault_if : Bool → CheckError → Name → List CheckFault
fault_if holds error name = if holds then record { error = error; place = name.place } ∷ [] else []

-- a variable that the step does not have
abbrev pub variable_faults : List Text → Name → List CheckFault
variable_faults names name = fault_if (is_none (slot_of names name)) UnknownName name

abbrev pub expression_faults : List Text → NamedExpression → List CheckFault
expression_faults names (Number number) = []
expression_faults names (Variable name) = variable_faults names name
expression_faults names (Negation operand) = expression_faults names operand
expression_faults names (Operation operator left right) = expression_faults names left ++ expression_faults names right

abbrev pub component_faults : List Text → List NamedExpression → List CheckFault
component_faults names [] = []
component_faults names (first ∷ rest) = expression_faults names first ++ component_faults names rest

abbrev pub is_number : Option ℕ → ℕ → Bool
is_number None number = false
is_number (Some other) number = other == number

-- how many components the keys of the collection with this number have
abbrev pub components_of : List Collection → ℕ → Option ℕ
components_of collections number = option_map (λ collection. collection.components) (slice_get collections number)

-- the faults of a use of the collection with this number: the step may not use it so, or its keys have another number of components
abbrev pub known_faults : List Collection → List Bool → CheckError → Name → List NamedExpression → Option ℕ → List CheckFault
known_faults collections allowed error name components None = fault_if true UnknownName name
known_faults collections allowed error name components (Some number) =
    fault_if (not (get_or allowed number false)) error name
    ++ fault_if (not (is_number (components_of collections number) (length components))) Arity name

abbrev pub key_faults : List Text → List Collection → List Bool → CheckError → Name → List NamedExpression → List CheckFault
key_faults names collections allowed error name components =
    known_faults collections allowed error name components (number_of collections name) ++ component_faults names components

-- the faults of what a statement uses
abbrev pub use_faults : List Text → Nameable → NamedUse → List CheckFault
use_faults names sheet (Target name) = variable_faults names name
use_faults names sheet (Value value) = expression_faults names value
use_faults names sheet (ItemRead item components) = key_faults names sheet.items sheet.reads UndeclaredRead item components.items
use_faults names sheet (ItemPut item components) = key_faults names sheet.items sheet.item_puts UndeclaredPut item components.items
use_faults names sheet (TagPut tag components) = key_faults names sheet.tags sheet.tag_puts UndeclaredPut tag components.items

abbrev pub simple_faults : List Text → Nameable → NamedSimple → List CheckFault
simple_faults names sheet statement = flat_map (use_faults names sheet) (uses_of statement)

abbrev pub block_faults : List Text → Nameable → NamedBlock → List CheckFault
block_faults names sheet End = []
block_faults names sheet (Do statement rest) = simple_faults names sheet statement ++ block_faults names sheet rest
block_faults names sheet (If condition first second rest) =
    expression_faults names condition ++ block_faults names sheet first ++ block_faults names sheet second ++ block_faults names sheet rest
block_faults names sheet (For name from to block rest) =
    variable_faults names name ++ expression_faults names from ++ expression_faults names to ++ block_faults names sheet block ++ block_faults names sheet rest

-- all faults: those of the read block, then those of the write block
abbrev pub faults_of : Nameable → Step → List CheckFault
faults_of sheet step = block_faults (names_of step) sheet step.read ++ block_faults (names_of step) sheet step.write
