-- What the program returns for a name with a key, for a line, and for the lines up to a place.
use Rattle.std.specs.Prelude.{◌≡◌, ◌⊎◌, ⊤, ℕ, ℤ, List, [], ◌∷◌, ◌++◌, Option, MatchOption}
use Rattle.steptree.specs.Nameable.{Collection}
use Rattle.graph.specs.Graph.{Graph}
use Rattle.script.specs.Faults.{AreFitting, IsUnknown, HasOtherArity, IsFirstOf, IsFault, Asks}
use Rattle.script.specs.Tokens.{AreSpaces}
use Rattle.script.specs.declared.command.Command.{Command}
use Rattle.script.specs.declared.error.ScriptError.{ScriptError}
use Rattle.script.specs.declared.error.ScriptError.TheVariants.{At, NoMemory}
use Rattle.script.specs.declared.error.ScriptFault.{ScriptFault}

-- the fault of a name with a key
abbrev pub IsKeyFault : List Collection → List ℕ → List ℤ → ScriptFault → Type 0
IsKeyFault collections name key fault = IsFirstOf (AreFitting key) (IsUnknown collections name) (HasOtherArity collections name key) fault

-- why the line with this number is rejected
abbrev pub IsLineError : Graph → List ℕ → ℕ → ScriptError → Type 0
IsLineError g line number (At other fault) = (other ≡ number) × IsFault g line fault
IsLineError g line number NoMemory = ⊤

-- the line has no token, or asks for this command
abbrev pub IsAsked : Graph → List ℕ → Option Command → Type 0
IsAsked g line asked = MatchOption asked (AreSpaces line) (λ command. Asks g line command)

-- a line was read: it has no token, or asks for the command that was added
abbrev pub IsAdded : Graph → List ℕ → List Command → List Command → Type 0
IsAdded g line old new = (AreSpaces line × (new ≡ old)) ⊎ ((command : Command) × (new ≡ old ++ command ∷ []) × Asks g line command)
