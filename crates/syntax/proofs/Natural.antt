-- The numbers of tokens are not below 0.
use Rattle.std.proofs.Common.{◌≡◌, ℕ, pos, ◌<◌, ◌^◌, zero, suc, true, List, [], ◌∷◌, drop, refl, arith, rules}
use Rattle.std.specs.Int.{cast_signed, w64}
use Rattle.syntax.specs.declared.token.Placed.{Placed}
use Rattle.syntax.specs.declared.token.Token.{Token}
use Rattle.syntax.specs.Tokens.{number, lexeme_of, spots_of, Stands, AreTokens}
use Rattle.syntax.specs.Natural.{is_natural, all_natural}
use Rattle.syntax.specs.Front.{front_of}

pub signed : (n : ℕ) → n < 2 ^ 63 → cast_signed w64 n ≡ pos n
signed n small = search rules

small_token : (it : Token) (value : ℕ) → is_natural it ≡ true → lexeme_of it ≡ number value → value < 2 ^ 63
small_token it value natural e = grind arith

pub small_front : (n : ℕ) (tokens : List Placed) (value : ℕ) → all_natural tokens ≡ true → (front_of (spots_of (drop n tokens))).0 ≡ number value → value < 2 ^ 63
small_front zero [] value natural e = cc
small_front (suc n) [] value natural e = cc
small_front zero (placed ∷ tokens) value natural e = small_token placed.token value (search (rules, natural)) e
small_front (suc n) (placed ∷ tokens) value natural e = small_front n tokens value (search (rules, natural)) e

-- the tokens of a text
natural_token : (it : Token) (here rest : List ℕ) → Stands (lexeme_of it) here rest → is_natural it ≡ true
natural_token it here rest stands = grind arith

pub natural_tokens : (tokens : List Placed) (at : ℕ) (bytes : List ℕ) → AreTokens at bytes (spots_of tokens) → all_natural tokens ≡ true
natural_tokens [] at bytes are = refl
natural_tokens (placed ∷ tokens) at bytes are = grind (arith, natural_token, natural_tokens tokens)
