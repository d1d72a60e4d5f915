-- The tokens that were read so far, and those that are still to come.
use Rattle.std.proofs.Common.{◌≡◌, ℕ, ◌+◌, ◌-◌, ◌<◌, ◌≤◌, false, get_or, List, [], ◌∷◌, ◌++◌, length, take, drop, sym, ap, subst, ◌∙◌, arith, append_assoc, length-drop, take-append-drop}
use Rattle.std.specs.List.{prefix_len}
use Rattle.std.proofs.lemmas.List.{append-nil, drop-drop, map-append, take_all}
use Rattle.std.proofs.lemmas.List.Folds.{length-prefix_len}
use Rattle.std.proofs.lemmas.List.Sums.{prefix_len-le-length}
use Rattle.syntax.specs.Tokens.{AreBlank, AreTokens, BeginsWithout, Lexeme, Spot, Stands, is_blank, lexeme_of, spots_of}
use Rattle.syntax.specs.declared.token.Placed.{Placed}
use Rattle.syntax.proofs.Runs.{passes, stops}

-- the tokens read from this place on, put after those read before, are the tokens of the whole text
abbrev pub SoFar : List ℕ → ℕ → List Spot → Type 0
SoFar text place done = (later : List Spot) → AreTokens place (drop place text) later → AreTokens 0 text (done ++ later)

ahead : (place blanks n : ℕ) (rest here : List ℕ) (lexeme : Lexeme) (later : List Spot) → blanks ≡ prefix_len is_blank rest → here ≡ drop blanks rest
    → Stands lexeme here (drop n here) → n ≤ length here → AreTokens (place + blanks + n) (drop n here) later → AreTokens place rest ((lexeme, place + blanks) ∷ later)
ahead place blanks n rest here lexeme later e is stands within next =
    let long : length (take blanks rest) ≡ blanks = subst (λ k. length (take k rest) ≡ k) (sym e) (length-prefix_len is_blank rest) in
    let moved : place + blanks + (length here - length (drop n here)) ≡ place + blanks + n = omega (arith, length-drop n here) in (
      take blanks rest,
      here,
      drop n here,
      rw is (sym (take-append-drop blanks rest)),
      subst (λ k. AreBlank (take k rest)) (sym e) (passes is_blank rest),
      omega arith,
      stands,
      subst (λ k. AreTokens k (drop n here) later) (sym moved) next,
    )

pub token_read : (text here : List ℕ) (place blanks n : ℕ) (lexeme : Lexeme) (done : List Spot) → blanks ≡ prefix_len is_blank (drop place text) → here ≡ drop (place + blanks) text
    → Stands lexeme here (drop n here) → n ≤ length here → SoFar text place done → SoFar text (place + blanks + n) (done ++ ((lexeme, place + blanks) ∷ []))
token_read text here place blanks n lexeme done e is stands within so_far later next =
    let rest : drop (place + blanks + n) text ≡ drop n here = sym (ap (drop n) is ∙ drop-drop n (place + blanks) text) in
    let from : here ≡ drop blanks (drop place text) = is ∙ sym (drop-drop blanks place text) in
    rw append_assoc (so_far ((lexeme, place + blanks) ∷ later)
    (ahead place blanks n (drop place text) here lexeme later e from stands within (subst (λ r. AreTokens (place + blanks + n) r later) rest next)))

all_blank : (rest : List ℕ) (blanks : ℕ) → blanks ≡ prefix_len is_blank rest → length rest ≡ blanks → AreBlank rest
all_blank rest blanks e all =
    let front : AreBlank (take blanks rest) = subst (λ k. AreBlank (take k rest)) (sym e) (passes is_blank rest) in
    let whole = take_all blanks rest (omega arith) in
    subst AreBlank whole front

pub finished : (text : List ℕ) (place blanks : ℕ) (done : List Spot) → blanks ≡ prefix_len is_blank (drop place text) → place + blanks ≡ length text → SoFar text place done → AreTokens 0 text done
finished text place blanks done e all so_far =
    subst (AreTokens 0 text) (append-nil done) (so_far [] (all_blank (drop place text) blanks e (omega (arith, length-drop place text))))

-- ---- after the blanks

pub blanks_within : (text : List ℕ) (place blanks : ℕ) → blanks ≡ prefix_len is_blank (drop place text) → place ≤ length text → place + blanks ≤ length text
blanks_within text place blanks e within = omega (arith, prefix_len-le-length is_blank (drop place text), length-drop place text)

first_is_none : (bytes : List ℕ) → 0 < length bytes → BeginsWithout is_blank bytes → is_blank (get_or bytes 0 0) ≡ false
first_is_none bytes some h = grind arith

pub not_blank : (text here : List ℕ) (place blanks : ℕ) → blanks ≡ prefix_len is_blank (drop place text) → here ≡ drop (place + blanks) text → 0 < length here → is_blank (get_or here 0 0) ≡ false
not_blank text here place blanks e is some =
    let from : here ≡ drop blanks (drop place text) = is ∙ sym (drop-drop blanks place text) in
    let ends = stops is_blank (drop place text) in
    let without : BeginsWithout is_blank (drop blanks (drop place text)) = subst (λ k. BeginsWithout is_blank (drop k (drop place text))) (sym e) ends in
    first_is_none here some (subst (BeginsWithout is_blank) (sym from) without)

-- ---- one more token

pub SoFar-pushed : (text : List ℕ) (place : ℕ) (old new : List Placed) (placed : Placed) → new ≡ old ++ (placed ∷ []) → SoFar text place (spots_of old ++ ((lexeme_of placed.token, placed.place) ∷ []))
    → SoFar text place (spots_of new)
SoFar-pushed text place old new placed is so_far = grind (arith, map-append)
