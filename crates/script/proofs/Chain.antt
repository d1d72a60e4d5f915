-- The tokens that were read so far, and those that are still to come.
use Rattle.std.proofs.Common.{◌≡◌, ℕ, ◌+◌, ◌<◌, ◌≤◌, false, get_or, List, [], ◌∷◌, ◌++◌, length, take, drop, sym, ap, subst, ◌∙◌, arith, append_assoc, length-drop, take-append-drop}
use Rattle.std.specs.List.{prefix_len}
use Rattle.std.proofs.lemmas.List.{append-nil, drop-drop, map-append, take_all}
use Rattle.std.proofs.lemmas.List.Sums.{prefix_len-le-length}
use Rattle.syntax.specs.Tokens.{BeginsWithout}
use Rattle.script.specs.Lexemes.{AreSound, IsSound, lexeme_of, lexemes_of}
use Rattle.script.specs.Tokens.{AreSpaces, AreTokens, Lexeme, Stands, is_space}
use Rattle.script.specs.declared.token.Token.{Token}
use Rattle.syntax.proofs.Runs.{passes, stops}

-- what is read from this place on continues what was read before it
abbrev pub SoFar : List ℕ → ℕ → List Lexeme → Type 0
SoFar text place done = (later : List Lexeme) → AreTokens (drop place text) later → AreTokens text (done ++ later)

ahead : (spaces n : ℕ) (rest here : List ℕ) (lexeme : Lexeme) (later : List Lexeme) → spaces ≡ prefix_len is_space rest → here ≡ drop spaces rest
    → Stands lexeme here (drop n here) → AreTokens (drop n here) later → AreTokens rest (lexeme ∷ later)
ahead spaces n rest here lexeme later e is stands next = (
  take spaces rest,
  here,
  drop n here,
  rw is (sym (take-append-drop spaces rest)),
  subst (λ k. AreSpaces (take k rest)) (sym e) (passes is_space rest),
  stands,
  next,
)

pub token_read : (text here : List ℕ) (place spaces n : ℕ) (lexeme : Lexeme) (done : List Lexeme) → spaces ≡ prefix_len is_space (drop place text) → here ≡ drop (place + spaces) text
    → Stands lexeme here (drop n here) → SoFar text place done → SoFar text (place + spaces + n) (done ++ lexeme ∷ [])
token_read text here place spaces n lexeme done e is stands so_far later next =
    let rest : drop (place + spaces + n) text ≡ drop n here = sym (ap (drop n) is ∙ drop-drop n (place + spaces) text) in
    let from : here ≡ drop spaces (drop place text) = is ∙ sym (drop-drop spaces place text) in
    rw append_assoc (so_far (lexeme ∷ later)
    (ahead spaces n (drop place text) here lexeme later e from stands (subst (λ r. AreTokens r later) rest next)))

all_spaces : (rest : List ℕ) (spaces : ℕ) → spaces ≡ prefix_len is_space rest → length rest ≡ spaces → AreSpaces rest
all_spaces rest spaces e all =
    let front : AreSpaces (take spaces rest) = subst (λ k. AreSpaces (take k rest)) (sym e) (passes is_space rest) in
    let whole = take_all spaces rest (omega arith) in
    subst AreSpaces whole front

pub finished : (text : List ℕ) (place spaces : ℕ) (done : List Lexeme) → spaces ≡ prefix_len is_space (drop place text) → place + spaces ≡ length text → SoFar text place done → AreTokens text done
finished text place spaces done e all so_far =
    subst (AreTokens text) (append-nil done) (so_far [] (all_spaces (drop place text) spaces e (omega (arith, length-drop place text))))

-- ---- after the spaces

pub spaces_within : (text : List ℕ) (place spaces : ℕ) → spaces ≡ prefix_len is_space (drop place text) → place ≤ length text → place + spaces ≤ length text
spaces_within text place spaces e within = omega (arith, prefix_len-le-length is_space (drop place text), length-drop place text)

first_is_none : (bytes : List ℕ) → 0 < length bytes → BeginsWithout is_space bytes → is_space (get_or bytes 0 0) ≡ false
first_is_none [] some h = absurd (omega arith)
first_is_none (first ∷ rest) some h = h

pub not_space : (text here : List ℕ) (place spaces : ℕ) → spaces ≡ prefix_len is_space (drop place text) → here ≡ drop (place + spaces) text → 0 < length here → is_space (get_or here 0 0) ≡ false
not_space text here place spaces e is some =
    let from : here ≡ drop spaces (drop place text) = is ∙ sym (drop-drop spaces place text) in
    let ends = stops is_space (drop place text) in
    let without : BeginsWithout is_space (drop spaces (drop place text)) = subst (λ k. BeginsWithout is_space (drop k (drop place text))) (sym e) ends in
    first_is_none here some (subst (BeginsWithout is_space) (sym from) without)

-- ---- one more token

pub SoFar-pushed : (text : List ℕ) (place : ℕ) (old new : List Token) (token : Token) → new ≡ old ++ token ∷ [] → SoFar text place (lexemes_of old ++ lexeme_of token ∷ [])
    → SoFar text place (lexemes_of new)
SoFar-pushed text place old new token is so_far =
    subst (λ done. SoFar text place done) (sym (ap lexemes_of is ∙ map-append _ old (token ∷ []))) so_far

sound_more : (old : List Token) (token : Token) → AreSound old → IsSound token → AreSound (old ++ token ∷ [])
sound_more [] token h k = (k, tt)
sound_more (first ∷ old) token h k = (h.0, sound_more old token h.1 k)

pub sound_pushed : (old new : List Token) (token : Token) → new ≡ old ++ token ∷ [] → AreSound old → IsSound token → AreSound new
sound_pushed old new token is h k = subst AreSound (sym is) (sound_more old token h k)
