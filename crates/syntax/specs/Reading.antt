-- What a text is read as, and the cause of each fault.
use Rattle.std.specs.Prelude.{◌≡◌, ◌≤◌, ℕ, suc, List, length, map, take, drop, get_or, slice_get, Some}
use Rattle.syntax.specs.declared.fault.TreeError.{TreeError}
use Rattle.syntax.specs.declared.fault.TreeError.TheVariants as error
use Rattle.syntax.specs.declared.fault.TreeFault.{TreeFault}
use Rattle.syntax.specs.declared.tree.Tree.{Tree}
use Rattle.syntax.specs.Tokens.{Spot, AreTokens}
use Rattle.syntax.specs.Grammar.{Position, GraphText}
use Rattle.syntax.specs.GraphTexts.{Derives, IsWithin, graph_limits, IsTree}
use Rattle.syntax.specs.Expected.{run, graph_expected, syntax, too_large}

-- the text is in the grammar and within the limits, and `tree` is its tree
pub record IsRead (text : List ℕ) (tree : Tree) : Type 0 where
  pub spots : List Spot
  pub tokens : AreTokens 0 text spots
  pub graph : GraphText
  pub derives : Derives graph spots
  pub within : IsWithin graph
  pub is : IsTree graph tree

-- some graph text begins with the first `count` of these tokens; if there are fewer, these tokens are a graph text
abbrev pub CanGoOn : List Spot → ℕ → Type 0
CanGoOn spots count = (graph : GraphText) × (others : List Spot) × Derives graph others × (take count others ≡ take count spots)

-- each graph text that begins with the first `count` of these tokens passes a limit at this place
abbrev pub AllPass : List Spot → ℕ → Position → Type 0
AllPass spots count place = (graph : GraphText) (others : List Spot) → Derives graph others → take count others ≡ take count spots → (i : ℕ) × (slice_get (graph_limits graph) i ≡ Some place)

-- the position of the token after the first `count` ones, or the end of the text
abbrev pub position_behind : List ℕ → List Spot → ℕ → Position
position_behind text spots count = get_or (map (λ spot. spot.1) spots) count (length text)

-- the first `count` tokens can be completed to a graph text; with the next one, or with the end of the text, they cannot; and
-- there the machine, which reads the tokens one by one from the left, reports that they break off
pub record IsSyntaxFault (text : List ℕ) (place : Position) : Type 0 where
  pub spots : List Spot
  pub tokens : AreTokens 0 text spots
  pub count : ℕ
  pub counted : count ≤ length spots
  pub there : place ≡ position_behind text spots count
  pub before : CanGoOn spots count
  pub none : CanGoOn spots (suc count) → ⊥
  pub told : run graph_expected spots ≡ syntax (drop count spots)

-- the first `count` tokens can be completed to a graph text, and every completion passes a limit at this place; and
-- the machine, which reads the tokens one by one from the left, reports a limit at this place
pub record IsLimitFault (text : List ℕ) (place : Position) : Type 0 where
  pub spots : List Spot
  pub tokens : AreTokens 0 text spots
  pub count : ℕ
  pub counted : count ≤ length spots
  pub begins : CanGoOn spots count
  pub pass : AllPass spots count place
  pub told : run graph_expected spots ≡ too_large place

-- the cause of a fault at its place; `NoMemory` has no cause, and the place 0
abbrev pub IsCause : List ℕ → TreeError → Position → Type 0
IsCause text error.Syntax place = IsSyntaxFault text place
IsCause text error.TooLarge place = IsLimitFault text place
IsCause text error.NoMemory place = place ≡ 0

abbrev pub HasCause : List ℕ → TreeFault → Type 0
HasCause text fault = IsCause text fault.error fault.place

-- a text that is read as a tree has no fault other than `NoMemory`
abbrev pub ReadWithoutFault : Type 0
ReadWithoutFault = (text : List ℕ) (tree : Tree) (fault : TreeFault) → IsRead text tree → HasCause text fault → fault.error ≡ error.NoMemory
