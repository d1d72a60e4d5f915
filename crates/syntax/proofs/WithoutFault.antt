-- A text that is read as a tree has no fault other than `NoMemory`.
use Rattle.std.proofs.Common.{◌≡◌, ℕ, List, arith}
use Rattle.syntax.specs.declared.fault.TreeError.{TreeError}
use Rattle.syntax.specs.declared.fault.TreeError.TheVariants as error
use Rattle.syntax.specs.declared.tree.Tree.{Tree}
use Rattle.syntax.specs.Tokens.{TokensOnce}
use Rattle.syntax.specs.Grammar.{Position}
use Rattle.syntax.specs.Reading.{IsRead, IsCause}

pub not_refused : TokensOnce → (text : List ℕ) (tree : Tree) (kind : TreeError) (place : Position) → IsRead text tree → IsCause text kind place → kind ≡ error.NoMemory
not_refused once text tree kind place read fault = grind arith
