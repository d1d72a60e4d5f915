-- What a line of a script asks for, or which fault it has.
use Rattle.std.specs.Prelude.{◌≡◌, ⊤, ℕ, ℤ, List, [], ◌∷◌, ◌++◌, length, Some, None, FitsSigned}
use Rattle.std.specs.Int.{w64}
use Rattle.std.specs.List.{AllByRecursion}
use Rattle.steptree.specs.Nameable.{Collection}
use Rattle.steptree.specs.Names.{place_of, names_in}
use Rattle.graph.specs.Graph.{Graph, IsOf}
use Rattle.script.specs.Tokens.{AreSpaces}
use Rattle.script.specs.Forms.{Form, Spells, put, tag, get, run}
use Rattle.script.specs.declared.command.Command.{Command}
use Rattle.script.specs.declared.command.Command.TheVariants as command
use Rattle.script.specs.declared.error.ScriptFault.{ScriptFault}
use Rattle.script.specs.declared.error.ScriptFault.TheVariants.{Syntax, Number, UnknownName, Arity, TooLarge}

-- the numbers of a form
abbrev pub numbers_of : Form → List ℤ
numbers_of (put name key value) = key ++ value ∷ []
numbers_of (tag name key) = key
numbers_of (get name key) = key
numbers_of run = []

-- each of these numbers fits in 64 bits
abbrev pub AreFitting : List ℤ → Type 0
AreFitting numbers = AllByRecursion (FitsSigned w64) numbers

-- each number of the form fits in 64 bits
abbrev pub AreInRange : Form → Type 0
AreInRange form = AreFitting (numbers_of form)

-- the collection with this name has this number
abbrev pub HasNumber : List Collection → List ℕ → ℕ → Type 0
HasNumber collections name number = place_of (names_in collections) name ≡ Some number

-- the collection has this number, and its keys have as many components as this key
abbrev pub Finds : List Collection → List ℕ → List ℤ → ℕ → Type 0
Finds collections name key number = HasNumber collections name number × IsOf collections number (length key)

-- the form names this command
abbrev pub Names : Graph → Form → Command → Type 0
Names g (put name key value) (command.Put address v) = Finds g.items name key address.collection.0 × (address.key ≡ key) × (v ≡ value)
Names g (tag name key) (command.Tag t) = Finds g.tags name key t.collection.0 × (t.key ≡ key)
Names g (get name key) (command.Get address) = Finds g.items name key address.collection.0 × (address.key ≡ key)
Names g run command.Run = ⊤
Names g form other = ⊥

-- the line asks for this command
abbrev pub Asks : Graph → List ℕ → Command → Type 0
Asks g line asked = (form : Form) × Spells line form × AreInRange form × Names g form asked

-- ---- faults

-- no collection has this name; there is one, but its keys have another number of components
abbrev pub IsUnknown : List Collection → List ℕ → Type 0
IsUnknown collections name = place_of (names_in collections) name ≡ None

abbrev pub HasOtherArity : List Collection → List ℕ → List ℤ → Type 0
HasOtherArity collections name key = (number : ℕ) × HasNumber collections name number × (IsOf collections number (length key) → ⊥)

abbrev pub NamesNone : Graph → Form → Type 0
NamesNone g (put name key value) = IsUnknown g.items name
NamesNone g (tag name key) = IsUnknown g.tags name
NamesNone g (get name key) = IsUnknown g.items name
NamesNone g run = ⊥

abbrev pub NamesOther : Graph → Form → Type 0
NamesOther g (put name key value) = HasOtherArity g.items name key
NamesOther g (tag name key) = HasOtherArity g.tags name key
NamesOther g (get name key) = HasOtherArity g.items name key
NamesOther g run = ⊥

-- The first fault of a form. `Number`: a number does not fit in 64 bits. `UnknownName`: all numbers fit, and no collection has the name.
-- `Arity`: all numbers fit, and a collection has the name, but its keys have another number of components. A form has no other fault.
abbrev pub IsFirstOf : (fitting unknown other_arity : Type 0) → ScriptFault → Type 0
IsFirstOf fitting unknown other_arity Number = fitting → ⊥
IsFirstOf fitting unknown other_arity UnknownName = fitting × unknown
IsFirstOf fitting unknown other_arity Arity = fitting × other_arity
IsFirstOf fitting unknown other_arity Syntax = ⊥
IsFirstOf fitting unknown other_arity TooLarge = ⊥

-- the fault of a form
abbrev pub IsFormFault : Graph → Form → ScriptFault → Type 0
IsFormFault g form fault = IsFirstOf (AreInRange form) (NamesNone g form) (NamesOther g form) fault

-- The fault of a line. `Syntax`: it has a token and is no form. Otherwise: the fault of its form. `TooLarge` is never the fault of a line.
abbrev pub IsFault : Graph → List ℕ → ScriptFault → Type 0
IsFault g line Syntax = (AreSpaces line → ⊥) × ((form : Form) → Spells line form → ⊥)
IsFault g line fault = (form : Form) × Spells line form × IsFormFault g form fault
