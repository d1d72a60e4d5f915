-- Worked examples of the tokens of a line.
use Rattle.std.proofs.Common.{◌≡◌, ℕ, List, [], ◌∷◌, codes, pos, neg_ℤ, inl, inr, true, refl}
use Rattle.script.specs.Tokens.{AreTokens, Lexeme, word, number, sign, unknown, Stands, TokensExample, is_sign}

put_word : Stands (word (codes "put")) (codes "put[a :1 ]= -20 ") (codes "[a :1 ]= -20 ")
put_word = (refl, ((refl, (refl, (refl, tt))), refl))

a_word : Stands (word (codes "a")) (codes "a :1 ]= -20 ") (codes " :1 ]= -20 ")
a_word = (refl, ((refl, tt), refl))

one : Stands (number (pos 1)) (codes "1 ]= -20 ") (codes " ]= -20 ")
one = (codes "1", 1, (λ none. cc, (refl, tt), refl, refl), inl (refl, refl))

twenty : Stands (number (neg_ℤ (pos 20))) (codes "-20 ") (codes " ")
twenty = (codes "20", 20, (λ none. cc, (refl, (refl, tt)), refl, refl), inr (refl, refl))

a_sign : (byte : ℕ) (rest : List ℕ) → is_sign byte ≡ true → Stands (sign byte) (byte ∷ rest) rest
a_sign byte rest h = (refl, h)

-- a token with no space before it, and a token with one
next : (token : Lexeme) (bytes rest : List ℕ) (more : List Lexeme) → Stands token bytes rest → AreTokens rest more → AreTokens bytes (token ∷ more)
next token bytes rest more stands behind = ([], bytes, rest, refl, tt, stands, behind)

behind_space : (token : Lexeme) (bytes rest : List ℕ) (more : List Lexeme) → Stands token bytes rest → AreTokens rest more → AreTokens (32 ∷ bytes) (token ∷ more)
behind_space token bytes rest more stands behind = (codes " ", bytes, rest, refl, (refl, tt), stands, behind)

value : AreTokens (codes " -20 ") (number (neg_ℤ (pos 20)) ∷ [])
value = behind_space (number (neg_ℤ (pos 20))) (codes "-20 ") (codes " ") [] twenty (refl, tt)

abbrev behind_equals : List Lexeme
behind_equals = sign 61 ∷ number (neg_ℤ (pos 20)) ∷ []

bracket : AreTokens (codes " ]= -20 ") (sign 93 ∷ behind_equals)
bracket =
    behind_space (sign 93) (codes "]= -20 ") (codes "= -20 ") behind_equals (a_sign 93 (codes "= -20 ") refl)
    (next (sign 61) (codes "= -20 ") (codes " -20 ") (number (neg_ℤ (pos 20)) ∷ []) (a_sign 61 (codes " -20 ") refl) value)

key : AreTokens (codes " :1 ]= -20 ") (sign 58 ∷ number (pos 1) ∷ sign 93 ∷ behind_equals)
key =
    behind_space (sign 58) (codes ":1 ]= -20 ") (codes "1 ]= -20 ") (number (pos 1) ∷ sign 93 ∷ behind_equals) (a_sign 58 (codes "1 ]= -20 ") refl)
    (next (number (pos 1)) (codes "1 ]= -20 ") (codes " ]= -20 ") (sign 93 ∷ behind_equals) one bracket)

named : AreTokens (codes "[a :1 ]= -20 ") (sign 91 ∷ word (codes "a") ∷ sign 58 ∷ number (pos 1) ∷ sign 93 ∷ behind_equals)
named =
    next (sign 91) (codes "[a :1 ]= -20 ") (codes "a :1 ]= -20 ") (word (codes "a") ∷ sign 58 ∷ number (pos 1) ∷ sign 93 ∷ behind_equals) (a_sign 91 (codes "a :1 ]= -20 ") refl)
    (next (word (codes "a")) (codes "a :1 ]= -20 ") (codes " :1 ]= -20 ") (sign 58 ∷ number (pos 1) ∷ sign 93 ∷ behind_equals) a_word key)

a_put : AreTokens (codes "put[a :1 ]= -20 ") (word (codes "put") ∷ sign 91 ∷ word (codes "a") ∷ sign 58 ∷ number (pos 1) ∷ sign 93 ∷ behind_equals)
a_put =
    next (word (codes "put")) (codes "put[a :1 ]= -20 ") (codes "[a :1 ]= -20 ") (sign 91 ∷ word (codes "a") ∷ sign 58 ∷ number (pos 1) ∷ sign 93 ∷ behind_equals) put_word named

large : AreTokens (codes "9223372036854775808") (number (pos 9223372036854775808) ∷ [])
large =
    next (number (pos 9223372036854775808)) (codes "9223372036854775808") [] [] (
      codes "9223372036854775808",
      9223372036854775808,
      (
        λ none. cc,
        (refl, (refl, (refl, (refl, (refl, (refl, (refl, (refl, (refl, (refl, (refl, (refl, (refl, (refl, (refl, (refl, (refl, (refl, (refl, tt))))))))))))))))))),
        tt,
        refl,
      ),
      inl (refl, refl),
    )
    tt

tab : AreTokens (9 ∷ codes "run") (unknown ∷ [])
tab = next unknown (9 ∷ codes "run") [] [] (refl, inl (refl, refl, refl, refl, refl)) tt

pub example : TokensExample
example = (a_put, large, tab)
