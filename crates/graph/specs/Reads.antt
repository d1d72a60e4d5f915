-- Which graph a text reads as, and the cause of each fault.
use Rattle.std.specs.Prelude.{◌≡◌, ◌≤◌, ◌<◌, ◌⊎◌, ℕ, suc, List, [], ◌∷◌, ◌++◌, map, length, take, Some, slice_get, ◌==◌, if◌then◌else◌}
use Rattle.std.specs.List.{AllByRecursion}
use Rattle.steptree.specs.declared.checker.CheckFault.{CheckFault}
use Rattle.steptree.specs.declared.step.Step.{Step as NamedStep}
use Rattle.steptree.specs.CheckFaults.{faults_of}
use Rattle.syntax.specs.declared.tree.Tree.{Tree}
use Rattle.syntax.specs.Reading.{IsRead, IsSyntaxFault, IsLimitFault}
use Rattle.graph.specs.declared.fault.GraphError.{GraphError}
use Rattle.graph.specs.declared.fault.GraphError.TheVariants as error
use Rattle.graph.specs.declared.fault.GraphFault.{GraphFault}
use Rattle.graph.specs.declared.limits.TheConstants.{MOST_TEXT}
use Rattle.graph.specs.Graph.{Graph}
use Rattle.graph.specs.Tree.{sheet_in, IsGraphOf}
use Rattle.graph.specs.Faults.{tree_faults, body_fault}
use Rattle.graph.specs.Canonical.{canonical}

-- the text is in the grammar, within the limits and without a fault, and is this graph
pub record Reads (text : List ℕ) (g : Graph) : Type 0 where
  pub short : length text ≤ MOST_TEXT
  pub ascii : AllByRecursion (λ byte. byte < 128) text
  pub tree : Tree
  pub read : IsRead text tree
  pub no_fault : tree_faults tree ≡ []
  pub graph : IsGraphOf tree g
  pub canonical : length (canonical g) ≤ MOST_TEXT

-- ---- faults

-- the line and the column after these bytes, beginning at this line and column; only a line feed begins a line
abbrev pub walked : ℕ → ℕ → List ℕ → ℕ × ℕ
walked line column [] = (line, column)
walked line column (byte ∷ bytes) = if byte == 10 then walked (suc line) 1 bytes else walked line (suc column) bytes

-- a byte of 128 or more, and none such before it
pub record IsNotAscii (text : List ℕ) (position : ℕ) : Type 0 where
  pub short : length text ≤ MOST_TEXT
  pub before : AllByRecursion (λ byte. byte < 128) (take position text)
  pub byte : ℕ
  pub there : slice_get text position ≡ Some byte
  pub large : 128 ≤ byte

-- the faults of the bodies of these steps, from the left
abbrev pub body_faults : Tree → List NamedStep → List CheckFault
body_faults tree [] = []
body_faults tree (step ∷ steps) = faults_of (sheet_in tree step) step ++ body_faults tree steps

-- the first fault of a tree: first those of its names and relations, then those of its bodies
abbrev pub IsTreeFault : Tree → GraphError → ℕ → Type 0
IsTreeFault tree error position = slice_get (tree_faults tree ++ map body_fault (body_faults tree tree.steps.items)) 0 ≡ Some (error, position)

-- the first fault of a text that is in the grammar and within the limits
pub record IsFirstFault (text : List ℕ) (error : GraphError) (position : ℕ) : Type 0 where
  pub tree : Tree
  pub read : IsRead text tree
  pub first : IsTreeFault tree error position

-- a graph whose canonical text is too long
pub record HasLongText (text : List ℕ) : Type 0 where
  pub tree : Tree
  pub read : IsRead text tree
  pub no_fault : tree_faults tree ≡ []
  pub g : Graph
  pub graph : IsGraphOf tree g
  pub long : MOST_TEXT < length (canonical g)

-- a text that passes the checks of length and ASCII, and so is read token by token
abbrev pub IsPlain : List ℕ → Type 0
IsPlain text = (length text ≤ MOST_TEXT) × AllByRecursion (λ byte. byte < 128) text

-- some such text reads as the tree
abbrev pub IsOfText : Tree → Type 0
IsOfText tree = (text : List ℕ) × IsPlain text × IsRead text tree

-- the tree has no fault in names and relations, but its graph's canonical text is too long
pub record IsLong (tree : Tree) : Type 0 where
  pub no_fault : tree_faults tree ≡ []
  pub g : Graph
  pub graph : IsGraphOf tree g
  pub long : MOST_TEXT < length (canonical g)

-- the text itself, and each of its bytes is below 128
abbrev pub IsAsciiText : List ℕ → List ℕ → Type 0
IsAsciiText text plain = (plain ≡ text) × AllByRecursion (λ byte. byte < 128) text

-- the cause of a fault at a position
abbrev pub IsCause : List ℕ → GraphError → ℕ → Type 0
IsCause text error.NotAscii position = IsNotAscii text position
IsCause text error.Syntax position = IsPlain text × IsSyntaxFault text position
IsCause text error.TooLarge position = ((position ≡ 0) × ((MOST_TEXT < length text) ⊎ (IsPlain text × HasLongText text))) ⊎ (IsPlain text × IsLimitFault text position)
IsCause text error.NoMemory position = ⊥
IsCause text other position = IsPlain text × IsFirstFault text other position

abbrev pub no_memory : GraphFault
no_memory = record { error = error.NoMemory; line = 0; column = 0 }

-- the fault has its cause at its position; `NoMemory` has none
abbrev pub HasCause : List ℕ → GraphFault → Type 0
HasCause text fault = (fault ≡ no_memory) ⊎ ((position : ℕ) × (walked 1 1 (take position text) ≡ (fault.line, fault.column)) × IsCause text fault.error position)
