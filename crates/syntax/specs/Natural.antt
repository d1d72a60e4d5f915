-- Tokens whose numbers are not below 0.
use Rattle.std.specs.Prelude.{◌^◌, Bool, true, nat_lt, List, [], ◌∷◌, ◌&&◌}
use Rattle.std.specs.Int.{cast_unsigned, w64}
use Rattle.syntax.specs.declared.token.Placed.{Placed}
use Rattle.syntax.specs.declared.token.Token.{Token}
use Rattle.syntax.specs.declared.token.Token.TheVariants as token

abbrev pub is_natural : Token → Bool
is_natural (token.Number value) = nat_lt (cast_unsigned w64 value) (2 ^ 63)
is_natural it = true

abbrev pub all_natural : List Placed → Bool
all_natural [] = true
all_natural (placed ∷ tokens) = is_natural placed.token && all_natural tokens
