-- A text that is printed token by token: which tokens it is, wherever it is and whatever is printed after it. Names, words, numbers and lines.
use Rattle.std.proofs.Common.{◌≡◌, ◌≢◌, ℕ, ◌+◌, ◌-◌, ◌<◌, ◌≤◌, Bool, true, false, ◌||◌, ◌==◌, List, [], ◌∷◌, ◌++◌, length, codes, refl, sym, ap, subst, ◌∙◌, arith, append_assoc, length-append, zero}
use Rattle.std.proofs.Common.{suc, ◌^◌, if◌then◌else◌, get_or, Some, nat_lt}
use Rattle.std.specs.Prelude.{⊤}
use Rattle.std.specs.List.{AllByRecursion}
use Rattle.std.proofs.lemmas.List.{append-nil}
use Rattle.std.proofs.lemmas.Bool.Decides.{nat_tests}
use Rattle.syntax.specs.declared.token.Symbol.{Symbol}
use Rattle.syntax.specs.declared.token.Symbol.TheVariants.{DoubleColon}
use Rattle.syntax.specs.Tokens.{AreBlank, AreDigits, AreTokens, Begins, BeginsWithout, IsWordText, Lexeme, name, number, word, symbol, unknown, Spot, Stands, is_blank, is_letter, is_digit, symbol_text, word_text, GREATEST}
use Rattle.syntax.specs.Spelled.{Piece, IsPiece, ArePieces, plain, at, named, a_word, a_sign, sign_at}
use Rattle.graph.proofs.Lists.{each_of_both, each_weaker}
use Rattle.std.specs.Fmt.{decimal}
use Rattle.std.specs.Str.Parse.{digits_value}
use Rattle.std.proofs.lemmas.Fmt.{decimal_nonempty, digits_decimal, digits_value-decimal}
use Rattle.std.proofs.lemmas.Str.Parse.{IsDigitsTest, IsNumeralModel, numerals_by_value}
use Rattle.syntax.specs.declared.token.Word.{Word}
use Rattle.syntax.specs.declared.token.Word.TheVariants as reserved
use Rattle.syntax.specs.declared.limits.TheConstants.{MOST_NAME_BYTES}
use Rattle.syntax.specs.Grammar.{Position}
use Rattle.syntax.specs.Limits.{name_limits, one_more}
use Rattle.steptree.specs.Names.{Text, is_text, place_of}
use Rattle.graph.specs.Textual.{IsGraphName}
use Rattle.graph.proofs.Texts.{one_text, itself}
use Rattle.syntax.specs.declared.token.Symbol.TheVariants as sign
use Rattle.graph.specs.Canonical.{line, in_brackets, in_angles, in_rounds}

-- ---- what may not follow a token

-- after a name, a number or a word no letter or digit may follow
abbrev pub after_word : ℕ → Bool
after_word byte = is_letter byte || is_digit byte

-- after a sign that could be the first half of a longer one no `:`, `=` or `>` may follow
abbrev pub after_sign : ℕ → Bool
after_sign byte = (byte == 58) || ((byte == 61) || (byte == 62))

-- after a blank, or a sign that begins no longer one, anything may follow
abbrev pub never : ℕ → Bool
never byte = false

pub anything : (bytes : List ℕ) → BeginsWithout never bytes
anything [] = tt
anything (first ∷ rest) = refl

-- ---- printed texts

-- at this place the text is these pieces, unless what follows it begins with a byte of `stop`
pub record Printed (stop : ℕ → Bool) (place : ℕ) (text : List ℕ) (pieces : List Piece) : Type 0 where
  pub spots : List Spot
  pub lexes : (rest : List ℕ) (more : List Spot) → BeginsWithout stop rest → AreTokens (place + length text) rest more → AreTokens place (text ++ rest) (spots ++ more)
  pub are : ArePieces pieces spots
  pub ascii : AllByRecursion (λ byte. byte < 128) text

both_pieces : (p q : List Piece) (s r : List Spot) → ArePieces p s → ArePieces q r → ArePieces (p ++ q) (s ++ r)
both_pieces [] q [] r one two = two
both_pieces (piece ∷ p) q (spot ∷ s) r one two = (one.0, both_pieces p q s r one.1 two)
both_pieces _ _ _ _ one _ = absurd (assumption)

-- one after the other
pub behind : {stop other : ℕ → Bool} {place : ℕ} {a b : List ℕ} {p q : List Piece} → Printed stop place a p → Printed other (place + length a) b q
    → ((rest : List ℕ) → BeginsWithout other rest → BeginsWithout stop (b ++ rest)) → Printed other place (a ++ b) (p ++ q)
behind {stop} {other} {place} {a} {b} {p} {q} one two border = record {
  spots = one.spots ++ two.spots;
  lexes = λ rest more may next.
      let moved : place + length (a ++ b) ≡ (place + length a) + length b = omega (arith, length-append a b) in
      let later = two.lexes rest more may (subst (λ (k : ℕ). AreTokens k rest more) moved next) in
      let whole = one.lexes (b ++ rest) (two.spots ++ more) (border rest may) later in
      subst (λ (t : List ℕ). AreTokens place t ((one.spots ++ two.spots) ++ more)) (sym (append_assoc a b rest))
      (subst (λ (s : List Spot). AreTokens place (a ++ (b ++ rest)) s) (sym (append_assoc one.spots two.spots more)) whole);
  are = both_pieces p q one.spots two.spots one.are two.are;
  ascii = each_of_both (λ byte. byte < 128) a b one.ascii two.ascii;
}

-- after a text that anything may follow
pub and : {other : ℕ → Bool} {place : ℕ} {a b : List ℕ} {p q : List Piece} → Printed never place a p → Printed other (place + length a) b q → Printed other place (a ++ b) (p ++ q)
and {other} {place} {a} {b} one two = behind one two (λ rest may. anything (b ++ rest))

-- the same with a `stop` that lets less follow
pub narrowed : {stop other : ℕ → Bool} {place : ℕ} {a : List ℕ} {p : List Piece} → ((rest : List ℕ) → BeginsWithout other rest → BeginsWithout stop rest) → Printed stop place a p → Printed other place a p
narrowed border one = record { spots = one.spots; lexes = λ rest more may next. one.lexes rest more (border rest may) next; are = one.are; ascii = one.ascii }

-- the same pieces in another form
pub in_order : {stop : ℕ → Bool} {place : ℕ} {a : List ℕ} {p q : List Piece} → p ≡ q → Printed stop place a p → Printed stop place a q
in_order {stop} {place} {a} same one = subst (λ (p : List Piece). Printed stop place a p) same one

-- the tokens of a whole text
pub whole : {stop : ℕ → Bool} {text : List ℕ} {pieces : List Piece} → (text ++ [] ≡ text) → (one : Printed stop 0 text pieces) → (one.spots ++ [] ≡ one.spots) → AreTokens 0 text one.spots
whole {stop} {text} same one same_spots =
    subst (λ (t : List ℕ). AreTokens 0 t one.spots) same (subst (λ (s : List Spot). AreTokens 0 (text ++ []) s) same_spots (one.lexes [] [] tt tt))

-- ---- blanks

blanks_first : (place : ℕ) (blanks rest : List ℕ) (more : List Spot) → AreBlank blanks → AreTokens (place + length blanks) rest more → AreTokens place (blanks ++ rest) more
blanks_first place blanks rest [] blank next = each_of_both (λ byte. is_blank byte ≡ true) blanks rest blank next
blanks_first place blanks rest (spot ∷ more) blank next = (
  blanks ++ next.0,
  next.1,
  next.2,
  ap (λ (r : List ℕ). blanks ++ r) next.3 ∙ sym (append_assoc blanks next.0 next.1),
  each_of_both (λ byte. is_blank byte ≡ true) blanks next.0 blank next.4,
  omega (arith, next.5, length-append blanks next.0),
  next.6,
  next.7,
)

pub blank : (place : ℕ) (blanks : List ℕ) → AreBlank blanks → Printed never place blanks []
blank place blanks are_blank = record {
  spots = [];
  lexes = λ rest more may next. blanks_first place blanks rest more are_blank next;
  are = tt;
  ascii = each_weaker (λ byte. is_blank byte ≡ true) (λ byte. byte < 128) (λ byte it. grind (arith, nat_tests)) blanks are_blank;
}

-- a text and blanks
pub and_blanks : {stop : ℕ → Bool} {place : ℕ} {a : List ℕ} {p : List Piece} → Printed stop place a p → (blanks : List ℕ) → AreBlank blanks
    → ((rest : List ℕ) → BeginsWithout never rest → BeginsWithout stop (blanks ++ rest)) → Printed never place (a ++ blanks) p
and_blanks {stop} {place} {a} {p} one blanks are_blank border =
    subst (λ (q : List Piece). Printed never place (a ++ blanks) q) (append-nil p) (behind one (blank (place + length a) blanks are_blank) border)

pub and_space : {place : ℕ} {a : List ℕ} {p : List Piece} → Printed after_word place a p → Printed never place (a ++ codes " ") p
and_space one = and_blanks one (codes " ") (refl, tt) (λ rest may. refl)

pub sign_and_space : {place : ℕ} {a : List ℕ} {p : List Piece} → Printed after_sign place a p → Printed never place (a ++ codes " ") p
sign_and_space one = and_blanks one (codes " ") (refl, tt) (λ rest may. refl)

pub space : (place : ℕ) → Printed never place (codes " ") []
space place = blank place (codes " ") (refl, tt)

pub nothing : (place : ℕ) → Printed never place [] []
nothing place = blank place [] tt

-- ---- one token

word_ascii : (bytes : List ℕ) → IsWordText bytes → AllByRecursion (λ byte. byte < 128) bytes
word_ascii [] h = tt
word_ascii (first ∷ rest) h = (grind (arith, nat_tests, h.0), each_weaker (λ byte. (is_letter byte || is_digit byte) ≡ true) (λ byte. byte < 128) (λ byte it. grind (arith, nat_tests)) rest h.1)

sign_ascii : (sign : Symbol) → AllByRecursion (λ byte. byte < 128) (symbol_text sign)
sign_ascii DoubleColon = omega arith
sign_ascii _ = omega arith

-- a text that is none of the tokens
abbrev pub IsProper : Lexeme → Type 0
IsProper unknown = ⊥
IsProper lexeme = ⊤

same_ascii : (one two : List ℕ) → one ++ [] ≡ two ++ [] → AllByRecursion (λ byte. byte < 128) two → AllByRecursion (λ byte. byte < 128) one
same_ascii one two same h = subst (λ (t : List ℕ). AllByRecursion (λ byte. byte < 128) t) (sym (sym (append-nil one) ∙ same ∙ append-nil two)) h

token_ascii : (lexeme : Lexeme) (text : List ℕ) → IsProper lexeme → Stands lexeme (text ++ []) [] → AllByRecursion (λ byte. byte < 128) text
token_ascii (name it) text proper stands = same_ascii text it stands.0 (word_ascii it stands.1.0)
token_ascii (word it) text proper stands = same_ascii text (word_text it) stands.0 (word_ascii (word_text it) stands.1.0)
token_ascii (number it) text proper stands = same_ascii text stands.0 stands.1 (each_weaker (λ byte. is_digit byte ≡ true) (λ byte. byte < 128) (λ byte it. grind (arith, nat_tests)) stands.0 stands.2.1)
token_ascii (symbol it) text proper stands = same_ascii text (symbol_text it) stands.0 (sign_ascii it)
token_ascii unknown text proper stands = absurd proper

pub one_token : (stop : ℕ → Bool) (place : ℕ) (text : List ℕ) (lexeme : Lexeme) (piece : Piece) → IsProper lexeme → IsPiece piece (lexeme, place)
    → ((rest : List ℕ) → BeginsWithout stop rest → Stands lexeme (text ++ rest) rest) → Printed stop place text (piece ∷ [])
one_token stop place text lexeme piece proper is stands = record {
  spots = (lexeme, place) ∷ [];
  lexes = λ rest more may next.
      let moved : place + length text ≡ place + (length (text ++ rest) - length rest) = omega (arith, length-append text rest) in (
        [],
        text ++ rest,
        rest,
        refl,
        tt,
        omega arith,
        stands rest may,
        subst (λ (k : ℕ). AreTokens k rest more) moved next,
      );
  are = (is, tt);
  ascii = token_ascii lexeme text proper (stands [] tt);
}

-- ---- signs

-- the first half of a sign of two characters
abbrev pub leads : ℕ → Bool
leads first = ((first == 58) || ((first == 45) || (first == 46))) || (((first == 61) || (first == 33)) || ((first == 60) || (first == 62)))

closed_longest : (first : ℕ) (rest : List ℕ) → leads first ≡ false → (other : Symbol) → Begins (symbol_text other) (first ∷ rest) → length (symbol_text other) ≤ 1
closed_longest first rest h DoubleColon b = grind (arith, nat_tests)
closed_longest first rest h _ b = grind (arith, nat_tests)

open_longest : (first : ℕ) (rest : List ℕ) → first ≢ 46 → BeginsWithout after_sign rest → (other : Symbol) → Begins (symbol_text other) (first ∷ rest) → length (symbol_text other) ≤ 1
open_longest first [] dot h DoubleColon b = grind (arith, nat_tests)
open_longest first [] dot h _ b = grind (arith, nat_tests)
open_longest first (next ∷ rest) dot h DoubleColon b = grind (arith, nat_tests)
open_longest first (next ∷ rest) dot h _ b = grind (arith, nat_tests)

double_longest : (other : Symbol) → length (symbol_text other) ≤ 2
double_longest DoubleColon = omega arith
double_longest _ = omega arith

-- a sign that is the longest where it stands
sign_token : (stop : ℕ → Bool) (place : ℕ) (text : List ℕ) (sign : Symbol) (piece : Piece) → IsPiece piece (symbol sign, place) → symbol_text sign ≡ text
    → ((rest : List ℕ) → BeginsWithout stop rest → (other : Symbol) → Begins (symbol_text other) (text ++ rest) → length (symbol_text other) ≤ length text) → Printed stop place text (piece ∷ [])
sign_token stop place text sign piece is same longest =
    one_token stop place text (symbol sign) piece tt is (λ rest may. (ap (λ (t : List ℕ). t ++ rest) (sym same), λ other begins. subst (λ (t : List ℕ). length (symbol_text other) ≤ length t) (sym same) (longest rest may other begins)))

-- a sign of one character that begins no longer one
pub closed_sign : (place first : ℕ) (sign : Symbol) (piece : Piece) → IsPiece piece (symbol sign, place) → symbol_text sign ≡ first ∷ [] → leads first ≡ false → Printed never place (first ∷ []) (piece ∷ [])
closed_sign place first sign piece is same h = sign_token never place (first ∷ []) sign piece is same (λ rest may. closed_longest first rest h)

-- a sign of one character that begins a longer one
pub open_sign : (place first : ℕ) (sign : Symbol) (piece : Piece) → IsPiece piece (symbol sign, place) → symbol_text sign ≡ first ∷ [] → first ≢ 46 → Printed after_sign place (first ∷ []) (piece ∷ [])
open_sign place first sign piece is same dot = sign_token after_sign place (first ∷ []) sign piece is same (λ rest may. open_longest first rest dot may)

-- a sign of two characters
pub double_sign : (place first second : ℕ) (sign : Symbol) (piece : Piece) → IsPiece piece (symbol sign, place) → symbol_text sign ≡ first ∷ second ∷ []
    → Printed never place (first ∷ second ∷ []) (piece ∷ [])
double_sign place first second sign piece is same = sign_token never place (first ∷ second ∷ []) sign piece is same (λ rest may other begins. double_longest other)

-- ---- what a text begins with

-- such a text may follow a sign
abbrev pub Fronts : List ℕ → Type 0
Fronts text = (rest : List ℕ) → BeginsWithout after_sign (text ++ rest)

pub word_fronts : (text : List ℕ) → IsWordText text → Fronts text
word_fronts [] h rest = absurd h
word_fronts (first ∷ more) h rest = grind (arith, nat_tests, h.0)

digits_front : (digits : List ℕ) → 0 < length digits → AreDigits digits → Fronts digits
digits_front [] some h rest = absurd (omega arith)
digits_front (first ∷ more) some h rest = grind (arith, nat_tests, h.0)

-- ---- words

word_is_text : (kept : Word) → IsWordText (word_text kept)
word_is_text reserved.Env = search
word_is_text _ = search

pub a_word_alone : (place : ℕ) (kept : Word) → Printed after_word place (word_text kept) (a_word kept)
a_word_alone place kept = one_token after_word place (word_text kept) (word kept) (plain (word kept)) tt refl (λ rest may. (refl, (word_is_text kept, may)))

pub word_at : (place : ℕ) (kept : Word) → Printed after_word place (word_text kept) (at place (word kept) ∷ [])
word_at place kept = one_token after_word place (word_text kept) (word kept) (at place (word kept)) tt (refl, refl) (λ rest may. (refl, (word_is_text kept, may)))

-- ---- names

pub printed_name : (place : ℕ) (text : Text) → IsGraphName text → Printed after_word place text (named (text, place) ∷ [])
printed_name place text is = one_token after_word place text (name text) (named (text, place)) tt (refl, refl) (λ rest may. (refl, (is.word, may), is.not_reserved))

pub name_fronts : (text : Text) → IsGraphName text → Fronts text
name_fronts text is = word_fronts text is.word

pub within_limit : (most count : ℕ) (place : Position) → count ≤ most → (if nat_lt most count then place ∷ [] else []) ≡ []
within_limit most count place h = grind (arith, nat_tests)

pub no_name_limit : (text : Text) (place : ℕ) → IsGraphName text → name_limits (text, place) ≡ []
no_name_limit text place is = within_limit MOST_NAME_BYTES (length text) place is.short

pub no_more_limit : (most before : ℕ) (place : Position) → before < most → one_more most before place ≡ []
no_more_limit most before place h = grind (arith, nat_tests)

-- ---- numbers

digits_test : IsDigitsTest AreDigits
digits_test = record {
  empty = tt;
  parts = λ c cs h. (grind (arith, nat_tests, h.0), h.1);
  more = λ c cs h k. (grind (arith, nat_tests), k);
}

own : IsNumeralModel AreDigits (digits_value 10)
own = numerals_by_value AreDigits digits_test

not_empty : (digits : List ℕ) → 0 < length digits → digits ≢ []
not_empty [] some none = absurd (omega arith)
not_empty (first ∷ more) some none = cc

begins_no_digit : (bytes : List ℕ) → BeginsWithout after_word bytes → BeginsWithout is_digit bytes
begins_no_digit [] h = tt
begins_no_digit (first ∷ rest) h = grind (arith, nat_tests)

pub number_fronts : (value : ℕ) → value ≤ GREATEST → Fronts (decimal value)
number_fronts value small = digits_front (decimal value) (decimal_nonempty value (omega arith)) (digits_decimal own value (omega arith))

pub printed_number : (place value : ℕ) → value ≤ GREATEST → Printed after_word place (decimal value) (at place (number value) ∷ [])
printed_number place value small =
    let fits : value < 2 ^ 64 = omega arith in
    one_token after_word place (decimal value) (number value) (at place (number value)) tt (refl, refl) (λ rest may. (
      decimal value,
      refl,
      (not_empty (decimal value) (decimal_nonempty value fits), digits_decimal own value fits, begins_no_digit rest may, digits_value-decimal own value fits),
      small,
    ))

-- ---- a name among others

pub other_text : (one two : Text) → one ≢ two → is_text one two ≡ false
other_text one two differ = grind (arith, one_text one two, differ)

-- no two of them are equal
abbrev pub AreDistinct : List Text → Type 0
AreDistinct names = (one two : ℕ) → one < length names → two < length names → get_or names one [] ≡ get_or names two [] → one ≡ two

pub distinct_rest : (first : Text) (rest : List Text) → AreDistinct (first ∷ rest) → AreDistinct rest
distinct_rest first rest distinct one two h k same = let it : suc one ≡ suc two = distinct (suc one) (suc two) (omega arith) (omega arith) same in omega arith

pub found_at : (names : List Text) (slot : ℕ) → AreDistinct names → slot < length names → place_of names (get_or names slot []) ≡ Some slot
found_at [] slot distinct within = absurd (omega arith)
found_at (first ∷ rest) zero distinct within = grind (arith, itself first)
found_at (first ∷ rest) (suc slot) distinct within =
    let differ : first ≢ get_or rest slot [] = λ same. let it : 0 ≡ suc slot = distinct 0 (suc slot) (omega arith) within same in absurd (omega arith) in
    grind (arith, other_text first (get_or rest slot []) differ, found_at rest slot (distinct_rest first rest distinct) (omega arith))

-- where the text of a line indented by this number of levels begins
abbrev pub inside : ℕ → ℕ → ℕ
inside zero place = place
inside (suc level) place = inside level (place + 2)

pub lined : {text : Text} {pieces : List Piece} (level place : ℕ) → Printed never (inside level place) text pieces → Printed never place (line level text) pieces
lined zero place one = and_blanks one (codes "\n") (refl, tt) (λ rest may. refl)
lined (suc level) place one = and (blank place (codes "  ") (refl, (refl, tt))) (lined level (place + 2) one)

-- a word and a blank
pub word_first : (place : ℕ) (it : Word) → Printed never place (word_text it ++ codes " ") (a_word it)
word_first place it = and_space (a_word_alone place it)

pub semicolon : (place : ℕ) → Printed never place (codes ";") (a_sign sign.Semicolon)
semicolon place = closed_sign place 59 sign.Semicolon _ refl refl refl

pub close_brace : (place : ℕ) → Printed never place (codes "}") (a_sign sign.CloseBrace)
close_brace place = closed_sign place 125 sign.CloseBrace _ refl refl refl

pub open_brace : (place : ℕ) → Printed never place (codes " {") (sign_at (place + 1) sign.OpenBrace)
open_brace place = and (space place) (closed_sign (place + 1) 123 sign.OpenBrace _ (refl, refl) refl refl)

pub plain_brace : (place : ℕ) → Printed never place (codes " {") (a_sign sign.OpenBrace)
plain_brace place = and (space place) (closed_sign (place + 1) 123 sign.OpenBrace _ refl refl refl)

-- signs between blanks
pub equals : (place : ℕ) → Printed never place (codes " = ") (a_sign sign.Assign)
equals place = and (space place) (sign_and_space (open_sign (place + 1) 61 sign.Assign _ refl refl (λ e. omega (arith, e))))

pub between_blanks : (place first second : ℕ) (it : Symbol) → symbol_text it ≡ first ∷ second ∷ [] → Printed never place (32 ∷ first ∷ second ∷ 32 ∷ []) (a_sign it)
between_blanks place first second it same = and (space place) (and_blanks (double_sign (place + 1) first second it _ refl same) (codes " ") (refl, tt) (λ rest may. refl))

pub dots : (place : ℕ) → Printed never place (codes " .. ") (a_sign sign.DoubleDot)
dots place = between_blanks place 46 46 sign.DoubleDot refl

pub arrow_sign : (place : ℕ) → Printed never place (codes " -> ") (a_sign sign.Arrow)
arrow_sign place = between_blanks place 45 62 sign.Arrow refl

pub colons : (place : ℕ) → Printed never place (codes " :: ") (a_sign sign.DoubleColon)
colons place = between_blanks place 58 58 sign.DoubleColon refl

pub among : (place : ℕ) → Printed never place (codes " in ") (a_word reserved.In)
among place = and (space place) (word_first (place + 1) reserved.In)

-- the end of a block that another block follows
pub otherwise : (place : ℕ) → Printed never place (codes "} else {") (a_sign sign.CloseBrace ++ a_word reserved.Else ++ sign_at (place + 1 + 1 + 4 + 1) sign.OpenBrace)
otherwise place = and (close_brace place) (and (space (place + 1)) (behind (a_word_alone (place + 1 + 1) reserved.Else) (open_brace (place + 1 + 1 + 4)) (λ rest may. refl)))

-- ---- in brackets

-- the opening sign is a piece at its place, or at any place
pub inside_brackets : {place : ℕ} {text : Text} {pieces : List Piece} (first : Piece) → IsPiece first (symbol sign.OpenBracket, place) → Printed after_word (place + 1) text pieces
    → Printed never place (in_brackets text) ((first ∷ []) ++ pieces ++ a_sign sign.CloseBracket)
inside_brackets first is one = and (closed_sign _ 91 sign.OpenBracket first is refl refl) (behind one (closed_sign _ 93 sign.CloseBracket _ refl refl refl) (λ rest may. refl))

pub inside_rounds : {place : ℕ} {text : Text} {pieces : List Piece} (first : Piece) → IsPiece first (symbol sign.OpenRound, place) → Printed after_word (place + 1) text pieces
    → Printed never place (in_rounds text) ((first ∷ []) ++ pieces ++ a_sign sign.CloseRound)
inside_rounds first is one = and (closed_sign _ 40 sign.OpenRound first is refl refl) (behind one (closed_sign _ 41 sign.CloseRound _ refl refl refl) (λ rest may. refl))

pub inside_angles : {place : ℕ} {text : Text} {pieces : List Piece} → Fronts text → Printed after_word (place + 1) text pieces
    → Printed after_sign place (in_angles text) (a_sign sign.Less ++ pieces ++ a_sign sign.Greater)
inside_angles {place} {text} fronts one =
    behind (open_sign place 60 sign.Less _ refl refl (λ e. omega (arith, e))) (behind one (open_sign _ 62 sign.Greater _ refl refl (λ e. omega (arith, e))) (λ rest may. refl))
    (λ rest may. subst (BeginsWithout after_sign) (sym (append_assoc text (codes ">") rest)) (fronts (codes ">" ++ rest)))
