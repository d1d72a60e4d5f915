-- The grammar is unambiguous.
use Rattle.std.specs.Prelude.{◌≡◌, List}
use Rattle.syntax.specs.Tokens.{Spot}
use Rattle.syntax.specs.Grammar.{GraphText}
use Rattle.syntax.specs.GraphTexts.{Derives}

-- tokens have at most one derivation
abbrev pub OneDerivation : Type 0
OneDerivation = (spots : List Spot) (one two : GraphText) → Derives one spots → Derives two spots → one ≡ two
