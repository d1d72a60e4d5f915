-- A whole text that is read.
use Rattle.std.specs.Prelude.{◌≡◌, ℕ, List, length}
use Rattle.syntax.specs.declared.fault.TreeFault.{TreeFault}
use Rattle.syntax.specs.declared.stop.Stop.{Stop}
use Rattle.syntax.specs.declared.tree.Tree.{Tree}
use Rattle.syntax.specs.Tokens.{Spot, AreTokens}
use Rattle.syntax.specs.Grammar.{GraphText}
use Rattle.syntax.specs.GraphTexts.{Derives, IsWithin, IsTree}
use Rattle.syntax.specs.Expected.{run, graph_expected}
use Rattle.syntax.specs.Parsed.{Tells}
use Rattle.syntax.specs.Reading.{HasCause}

-- the tokens are a graph text within the limits, and `tree` is its tree
pub record IsGraphRead (tree : Tree) (spots : List Spot) : Type 0 where
  pub graph : GraphText
  pub derives : Derives graph spots
  pub within : IsWithin graph
  pub is : IsTree graph tree

-- the fault of each text of `end` bytes in which the parser stops so, with the tokens `rest` left
abbrev pub IsFaultOfStop : Stop → ℕ → List Spot → TreeFault → Type 0
IsFaultOfStop stop end rest fault = (text : List ℕ) (spots : List Spot) → AreTokens 0 text spots → end ≡ length text → Tells stop rest (run graph_expected spots) → HasCause text fault
