-- A line has at most one list of tokens.
use Rattle.std.proofs.Common.{◌≡◌, ◌≢◌, ℕ, ℤ, pos, neg_ℤ, ◌<◌, Bool, true, false, ◌==◌, ◌⊎◌, if◌then◌else◌, List, [], ◌∷◌, ◌++◌, inl, inr, refl, sym, ap, subst, ◌∙◌, arith}
use Rattle.std.specs.Str.Parse.{digits_value}
use Rattle.std.proofs.lemmas.Bool.Decides.{nat_tests}
use Rattle.std.proofs.lemmas.List.{append-nil}
use Rattle.syntax.specs.Tokens.{AreDigits, BeginsWithout, IsNumeral, IsWhole, IsWordText, is_digit, is_letter}
use Rattle.script.specs.Tokens.{AreSpaces, AreTokens, BeginsNone, IsInteger, IsLoneHyphen, Lexeme, word, number, sign, unknown, Stands, is_sign, is_space}
use Rattle.syntax.proofs.Fronts.{is_word_part, letter_part}
use Rattle.syntax.proofs.Runs.{Passes, split_once}

-- ---- the first character

-- 0 for a letter, 1 for a digit, 2 for a sign, 3 for a hyphen, and 4 for another character
abbrev kind_of : ℕ → ℕ
kind_of byte = if is_letter byte then 0 else (if is_digit byte then 1 else (if is_sign byte then 2 else (if byte == 45 then 3 else 4)))

abbrev kind : List ℕ → ℕ
kind [] = 5
kind (first ∷ rest) = kind_of first

letter_kind : (byte : ℕ) → is_letter byte ≡ true → kind_of byte ≡ 0
letter_kind byte h = rw h refl

digit_no_letter : (byte : ℕ) → is_digit byte ≡ true → is_letter byte ≡ false
digit_no_letter byte h = grind (arith, nat_tests)

digit_kind : (byte : ℕ) → is_digit byte ≡ true → kind_of byte ≡ 1
digit_kind byte h = rw (digit_no_letter byte h, h) refl

-- each of the signs
abbrev IsSignByte : ℕ → Type 0
IsSignByte byte = ((byte ≡ 91) ⊎ (byte ≡ 93)) ⊎ (((byte ≡ 60) ⊎ (byte ≡ 62)) ⊎ ((byte ≡ 58) ⊎ ((byte ≡ 44) ⊎ (byte ≡ 61))))

sign_byte : (byte : ℕ) → is_sign byte ≡ true → IsSignByte byte
sign_byte byte h = grind (arith, nat_tests)

kind_at : (byte other : ℕ) → byte ≡ other → kind_of other ≡ 2 → kind_of byte ≡ 2
kind_at byte other e h = ap kind_of e ∙ h

sign_kind : (byte : ℕ) → is_sign byte ≡ true → kind_of byte ≡ 2
sign_kind byte h = elim (sign_byte byte h) [
  | inl (inl e) ↦ kind_at byte 91 e refl
  | inl (inr e) ↦ kind_at byte 93 e refl
  | inr (inl (inl e)) ↦ kind_at byte 60 e refl
  | inr (inl (inr e)) ↦ kind_at byte 62 e refl
  | inr (inr (inl e)) ↦ kind_at byte 58 e refl
  | inr (inr (inr (inl e))) ↦ kind_at byte 44 e refl
  | inr (inr (inr (inr e))) ↦ kind_at byte 61 e refl
]

letter_leads : (text rest bytes : List ℕ) → bytes ≡ text ++ rest → IsWordText text → kind bytes ≡ 0
letter_leads [] rest bytes e h = absurd h
letter_leads (first ∷ more) rest bytes e h = ap kind e ∙ letter_kind first h.0

digits_lead : (digits rest bytes : List ℕ) → bytes ≡ digits ++ rest → digits ≢ [] → AreDigits digits → kind bytes ≡ 1
digits_lead [] rest bytes e some h = absurd (some refl)
digits_lead (first ∷ more) rest bytes e some h = ap kind e ∙ digit_kind first h.0

number_leads : (bytes rest : List ℕ) (value : ℤ) → IsInteger bytes value rest → (kind bytes ≡ 1) ⊎ (kind bytes ≡ 3)
number_leads bytes rest value h = elim h.3 [ inl plain ↦ inl (digits_lead h.0 rest bytes plain.0 h.2.0 h.2.1) | inr negative ↦ inr (ap kind negative.0) ]

sign_leads : (bytes rest : List ℕ) (byte : ℕ) → bytes ≡ byte ∷ rest → is_sign byte ≡ true → kind bytes ≡ 2
sign_leads bytes rest byte e h = ap kind e ∙ sign_kind byte h

none_leads : (bytes : List ℕ) → BeginsNone bytes → kind bytes ≡ 4
none_leads [] h = absurd h
none_leads (first ∷ rest) h = rw (h.0, h.1, h.3, h.4) refl

lone_leads : (bytes : List ℕ) → IsLoneHyphen bytes → kind bytes ≡ 3
lone_leads [] h = absurd h
lone_leads (first ∷ []) h = ap kind_of h
lone_leads (first ∷ second ∷ rest) h = ap kind_of h.0

unknown_leads : (bytes : List ℕ) → BeginsNone bytes ⊎ IsLoneHyphen bytes → 2 < kind bytes
unknown_leads bytes h = elim h [ inl none ↦ omega (arith, none_leads bytes none) | inr lone ↦ omega (arith, lone_leads bytes lone) ]

number_between : (bytes rest : List ℕ) (value : ℤ) → IsInteger bytes value rest → (kind bytes ≢ 0) × (kind bytes ≢ 2)
number_between bytes rest value h = elim (number_leads bytes rest value h) [ inl one ↦ (λ e. omega arith, λ e. omega arith) | inr three ↦ (λ e. omega arith, λ e. omega arith) ]

-- ---- some character, and no space

abbrev Starts : List ℕ → Type 0
Starts bytes = BeginsWithout is_space bytes × (bytes ≢ [])

space_kind : (byte : ℕ) → is_space byte ≡ true → kind_of byte ≡ 4
space_kind byte h = let e : byte ≡ 32 = grind (arith, nat_tests) in ap kind_of e

no_space : (byte : ℕ) → kind_of byte < 4 → is_space byte ≡ false
no_space byte less = by (is_space byte) refl
  where
    by : (b : Bool) → is_space byte ≡ b → b ≡ false
    by true e = absurd (omega (arith, space_kind byte e))
    by false e = refl

kind_starts : (bytes : List ℕ) → kind bytes < 4 → Starts bytes
kind_starts [] less = absurd (omega arith)
kind_starts (first ∷ rest) less = (no_space first less, λ none. absurd (cc))

none_starts : (bytes : List ℕ) → BeginsNone bytes → Starts bytes
none_starts [] h = absurd h
none_starts (first ∷ rest) h = (h.2, λ none. absurd (cc))

starts : (lexeme : Lexeme) (bytes rest : List ℕ) → Stands lexeme bytes rest → Starts bytes
starts (word text) bytes rest h = kind_starts bytes (omega (arith, letter_leads text rest bytes h.0 h.1.0))
starts (number value) bytes rest h = elim (number_leads bytes rest value h) [ inl one ↦ kind_starts bytes (omega arith) | inr three ↦ kind_starts bytes (omega arith) ]
starts (sign byte) bytes rest h = kind_starts bytes (omega (arith, sign_leads bytes rest byte h.0 h.1))
starts unknown bytes rest h = elim h.1 [ inl none ↦ none_starts bytes none | inr lone ↦ kind_starts bytes (omega (arith, lone_leads bytes lone)) ]

-- ---- one token in front

word_passes : (text : List ℕ) → IsWordText text → Passes is_word_part text
word_passes [] h = absurd h
word_passes (first ∷ rest) h = (letter_part first h.0, h.1)

same_texts : (one two r s : List ℕ) → one ++ r ≡ two ++ s → IsWhole one r → IsWhole two s → (one ≡ two) × (r ≡ s)
same_texts one two r s e h k = split_once is_word_part one two r s (word_passes one h.0) (word_passes two k.0) h.1 k.1 e

same_digits : (one two r s : List ℕ) (m n : ℕ) → one ++ r ≡ two ++ s → IsNumeral one m r → IsNumeral two n s → (m ≡ n) × (r ≡ s)
same_digits one two r s m n e h k =
    let same = split_once is_digit one two r s h.1 k.1 h.2 k.2 e in
    (sym h.3 ∙ ap (digits_value 10) same.0 ∙ k.3, same.1)

behind_hyphen : (one two : List ℕ) (c d : ℕ) → c ∷ one ≡ d ∷ two → one ≡ two
behind_hyphen one two c d e = cc

same_numbers : (bytes r s : List ℕ) (m n : ℤ) → IsInteger bytes m r → IsInteger bytes n s → (m ≡ n) × (r ≡ s)
same_numbers bytes r s m n x y = elim x.3 [
  | inl plain ↦ elim y.3 [
    | inl plain' ↦ let same = same_digits x.0 y.0 r s x.1 y.1 (sym plain.0 ∙ plain'.0) x.2 y.2 in (plain.1 ∙ ap pos same.0 ∙ sym plain'.1, same.1)
    | inr negative' ↦ absurd (omega (arith, digits_lead x.0 r bytes plain.0 x.2.0 x.2.1, ap kind negative'.0))
  ]
  | inr negative ↦ elim y.3 [
    | inl plain' ↦ absurd (omega (arith, digits_lead y.0 s bytes plain'.0 y.2.0 y.2.1, ap kind negative.0))
    | inr negative' ↦
        let same = same_digits x.0 y.0 r s x.1 y.1 (behind_hyphen _ _ 45 45 (sym negative.0 ∙ negative'.0)) x.2 y.2 in (negative.1 ∙ ap (λ n. neg_ℤ (pos n)) same.0 ∙ sym negative'.1, same.1)
  ]
]

no_lone : (bytes digits rest : List ℕ) → bytes ≡ 45 ∷ digits ++ rest → digits ≢ [] → AreDigits digits → IsLoneHyphen bytes → ⊥
no_lone bytes [] rest e some are lone = some refl
no_lone bytes (digit ∷ more) rest e some are lone =
    let h : IsLoneHyphen (45 ∷ digit ∷ more ++ rest) = subst IsLoneHyphen e lone in
    let is : is_digit digit ≡ true = are.0 in
    let not : is_digit digit ≡ false = h.1 in
    absurd (cc)

never_unknown : (bytes rest : List ℕ) (value : ℤ) → IsInteger bytes value rest → BeginsNone bytes ⊎ IsLoneHyphen bytes → ⊥
never_unknown bytes rest value x h = elim h [
  | inl none ↦ elim (number_leads bytes rest value x) [ inl one ↦ omega (arith, none_leads bytes none) | inr three ↦ omega (arith, none_leads bytes none) ]
  | inr lone ↦ elim x.3 [
    | inl plain ↦ omega (arith, digits_lead x.0 rest bytes plain.0 x.2.0 x.2.1, lone_leads bytes lone)
    | inr negative ↦ no_lone bytes x.0 rest negative.0 x.2.0 x.2.1 lone
  ]
]

abbrev Same : Lexeme → List ℕ → Lexeme → List ℕ → Type 0
Same one r two s = (one ≡ two) × (r ≡ s)

same_signs : (r s : List ℕ) (b c : ℕ) → b ∷ r ≡ c ∷ s → (b ≡ c) × (r ≡ s)
same_signs r s b c e = (cc, cc)

stands_once : (bytes r s : List ℕ) (one two : Lexeme) → Stands one bytes r → Stands two bytes s → Same one r two s
stands_once bytes r s (word a) (word b) x y = let same = same_texts a b r s (sym x.0 ∙ y.0) x.1 y.1 in (ap word same.0, same.1)
stands_once bytes r s (word a) (number n) x y = absurd ((number_between bytes s n y).0 (letter_leads a r bytes x.0 x.1.0))
stands_once bytes r s (word a) (sign c) x y = absurd (omega (arith, letter_leads a r bytes x.0 x.1.0, sign_leads bytes s c y.0 y.1))
stands_once bytes r s (word a) unknown x y = absurd (omega (arith, letter_leads a r bytes x.0 x.1.0, unknown_leads bytes y.1))
stands_once bytes r s (number m) (word b) x y = absurd ((number_between bytes r m x).0 (letter_leads b s bytes y.0 y.1.0))
stands_once bytes r s (number m) (number n) x y = let same = same_numbers bytes r s m n x y in (ap number same.0, same.1)
stands_once bytes r s (number m) (sign c) x y = absurd ((number_between bytes r m x).1 (sign_leads bytes s c y.0 y.1))
stands_once bytes r s (number m) unknown x y = absurd (never_unknown bytes r m x y.1)
stands_once bytes r s (sign b) (word c) x y = absurd (omega (arith, letter_leads c s bytes y.0 y.1.0, sign_leads bytes r b x.0 x.1))
stands_once bytes r s (sign b) (number n) x y = absurd ((number_between bytes s n y).1 (sign_leads bytes r b x.0 x.1))
stands_once bytes r s (sign b) (sign c) x y = let same = same_signs r s b c (sym x.0 ∙ y.0) in (ap sign same.0, same.1)
stands_once bytes r s (sign b) unknown x y = absurd (omega (arith, sign_leads bytes r b x.0 x.1, unknown_leads bytes y.1))
stands_once bytes r s unknown (word b) x y = absurd (omega (arith, letter_leads b s bytes y.0 y.1.0, unknown_leads bytes x.1))
stands_once bytes r s unknown (number n) x y = absurd (never_unknown bytes s n y x.1)
stands_once bytes r s unknown (sign c) x y = absurd (omega (arith, sign_leads bytes s c y.0 y.1, unknown_leads bytes x.1))
stands_once bytes r s unknown unknown x y = (refl, x.0 ∙ sym y.0)

-- ---- lists of tokens

pub spaces_are_none : (lexeme : Lexeme) (bytes spaces here rest : List ℕ) → AreSpaces bytes → bytes ≡ spaces ++ here → AreSpaces spaces → Stands lexeme here rest → ⊥
spaces_are_none lexeme bytes spaces here rest all e front stands =
    let begins = starts lexeme here rest stands in
    let same = split_once is_space bytes spaces [] here all front tt begins.0 (append-nil bytes ∙ e) in
    begins.1 (sym same.1)

pub once : (bytes : List ℕ) (one two : List Lexeme) → AreTokens bytes one → AreTokens bytes two → one ≡ two
once bytes [] [] x y = refl
once bytes [] (token ∷ more) x y = absurd (spaces_are_none token bytes y.0 y.1 y.2 x y.3 y.4 y.5)
once bytes (token ∷ more) [] x y = absurd (spaces_are_none token bytes x.0 x.1 x.2 y x.3 x.4 x.5)
once bytes (token ∷ more) (token' ∷ more') x y =
    let from : Starts x.1 = starts token x.1 x.2 x.5 in
    let from' : Starts y.1 = starts token' y.1 y.2 y.5 in
    let same = split_once is_space x.0 y.0 x.1 y.1 x.4 y.4 from.0 from'.0 (sym x.3 ∙ y.3) in
    let here : Stands token' x.1 y.2 = subst (λ here. Stands token' here y.2) (sym same.1) y.5 in
    let heads = stands_once x.1 x.2 y.2 token token' x.5 here in
    let rest : AreTokens x.2 more' = subst (λ r. AreTokens r more') (sym heads.1) y.6 in
    let tails : more ≡ more' = once x.2 more more' x.6 rest in
    let first : token ≡ token' = heads.0 in
    cc
