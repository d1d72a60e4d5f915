-- A script: lines, each of which has no token or asks for a command.
use Rattle.std.specs.Prelude.{◌≡◌, ◌≢◌, ◌⊎◌, ⊤, ◌≤◌, ◌<◌, ◌+◌, ℕ, List, [], ◌∷◌, ◌++◌, length}
use Rattle.std.specs.List.{AllByRecursion}
use Rattle.graph.specs.Graph.{Graph}
use Rattle.script.specs.Tokens.{AreSpaces}
use Rattle.script.specs.Faults.{Asks, IsFault}
use Rattle.script.specs.declared.command.Command.{Command}
use Rattle.script.specs.declared.error.ScriptError.{ScriptError}
use Rattle.script.specs.declared.error.ScriptError.TheVariants.{At, NoMemory}
use Rattle.script.specs.declared.error.ScriptFault.{ScriptFault}
use Rattle.script.specs.declared.error.ScriptFault.TheVariants.{Syntax, Number, UnknownName, Arity, TooLarge}
use Rattle.script.specs.declared.parser.TheConstants.{MOST_BYTES}

-- no line feed (10) is among these bytes
abbrev pub HasNoFeed : List ℕ → Type 0
HasNoFeed line = AllByRecursion (λ byte. byte ≢ 10) line

-- the text is these lines, with one line feed between any two neighbours
abbrev pub AreLines : List ℕ → List (List ℕ) → Type 0
AreLines text [] = ⊥
AreLines text (line ∷ []) = (text ≡ line) × HasNoFeed line
AreLines text (line ∷ next ∷ more) = (rest : List ℕ) × (text ≡ line ++ 10 ∷ rest) × HasNoFeed line × AreLines rest (next ∷ more)

-- each of the lines has no token, or asks for a command; these are the commands, in order
abbrev pub AreAsked : Graph → List (List ℕ) → List Command → Type 0
AreAsked g [] commands = commands ≡ []
AreAsked g (line ∷ more) commands = (AreSpaces line × AreAsked g more commands)
    ⊎ ((first : Command) × (rest : List Command) × (commands ≡ first ∷ rest) × Asks g line first × AreAsked g more rest)

-- the text is a script for the graph, with these commands
pub record IsScript (g : Graph) (text : List ℕ) (commands : List Command) : Type 0 where
  pub small : length text ≤ MOST_BYTES
  pub lines : List (List ℕ)
  pub split : AreLines text lines
  pub asked : AreAsked g lines commands

-- the line with this number, counted from 1, is the first with a fault, and this is its fault
pub record IsFirstFault (g : Graph) (text : List ℕ) (number : ℕ) (fault : ScriptFault) : Type 0 where
  pub small : length text ≤ MOST_BYTES
  pub before : List (List ℕ)
  pub line : List ℕ
  pub behind : List (List ℕ)
  pub split : AreLines text (before ++ line ∷ behind)
  pub commands : List Command
  pub asked : AreAsked g before commands
  pub counted : number ≡ length before + 1
  pub is_fault : IsFault g line fault

-- why a text is rejected: it is too large, reported with line 1; or a line has a fault; or memory was refused
abbrev pub IsRefused : Graph → List ℕ → ScriptError → Type 0
IsRefused g text (At number TooLarge) = (MOST_BYTES < length text) × (number ≡ 1)
IsRefused g text (At number Syntax) = IsFirstFault g text number Syntax
IsRefused g text (At number Number) = IsFirstFault g text number Number
IsRefused g text (At number UnknownName) = IsFirstFault g text number UnknownName
IsRefused g text (At number Arity) = IsFirstFault g text number Arity
IsRefused g text NoMemory = ⊤

-- a text that is a script has no fault but `NoMemory`, and at most one list of commands
abbrev pub ScriptsOnce : Type 0
ScriptsOnce = (g : Graph) (text : List ℕ) (commands : List Command) → IsScript g text commands
    → ((other : List Command) → IsScript g text other → commands ≡ other) × ((error : ScriptError) → IsRefused g text error → error ≡ NoMemory)
