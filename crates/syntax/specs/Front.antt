-- The next token.
use Rattle.std.specs.Prelude.{List, [], ◌∷◌}
use Rattle.syntax.specs.Tokens.{Spot, unknown}

-- the next token, and the tokens after it; at the end an unknown one
abbrev pub front_of : List Spot → Spot
front_of [] = (unknown, 0)
front_of (spot ∷ spots) = spot

abbrev pub behind_front : List Spot → List Spot
behind_front [] = []
behind_front (spot ∷ spots) = spots
