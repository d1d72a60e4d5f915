-- An induction over tokens that fill what may come: a thing is left out, or its first token is taken, or an expression is read.
use Rattle.std.proofs.Common.{◌≡◌, Bool, true, false, List, [], ◌∷◌, ◌++◌, Some, refl, sym, ap, ◌∙◌, arith, ◌≤◌, ℕ, zero, suc, length, subst, append_assoc, if◌then◌else◌}
use Rattle.std.proofs.lemmas.List.{append-nil}
use Rattle.syntax.specs.Tokens.{Lexeme, Spot}
use Rattle.syntax.specs.Grammar.{Position, own, assigned, no_more, and_then, put_item, GraphText, Key}
use Rattle.syntax.specs.Spelled.{Piece, IsPiece, ArePieces, named, a_sign, sums_pieces}
use Rattle.syntax.specs.GraphTexts.{Derives, graph_limits}
use Rattle.syntax.specs.Front.{front_of}
use Rattle.syntax.specs.Parsed.{Spells}
use Rattle.syntax.specs.Expected.{Expected, exactly, keyword, components, more_components, statements, nested_brace, or_else, declarations, behind_component, relations, steps, variables, Part}
use Rattle.syntax.specs.Expected.{reading, writing, left_out, look, Comparing, whole, operand, behind_operand, Move, taken, within, met, followed, run, accepted, graph_expected, Kind}
use Rattle.syntax.specs.Expected.{closing, key_rest}
use Rattle.syntax.specs.Limits.{key_limits}
use Rattle.syntax.proofs.Fillings.{Filling, filling_pieces, Fillings, fillings_pieces, Block, block_pieces, ◌▸◌, Whole, whole_pieces, filling_limits, fillings_limits, joined, joined_row, parted}
use Rattle.syntax.proofs.Moves.{front_is, lexeme_in, halves, shorter, spelled, graph_spelled}
use Rattle.syntax.proofs.Behind.{Class, anything, a_bracket, a_brace, a_statement, the_word_read, more_sums, an_end, class, is_begun, is_one, stands, admits, chain, first_of, second_of, is_expression}
use Rattle.syntax.proofs.Behind.{follows, chain_rest, chain_on, fresh, fresh_rest, fresh_on, not_begun}
use Rattle.syntax.proofs.Unfolded.{empty_of, By, Unfolds, unfolded}
use Rattle.syntax.proofs.Judged.{Covers, covers_same, covers_then, covers_on, Judged, judged_same, judged_on, judged_behind, judged_among, taken_within}
use Rattle.syntax.proofs.Turns.{is_known, fits, Begins, Turn, takes}
use Rattle.syntax.proofs.AllTurns.{turn}
use Rattle.syntax.proofs.Tellings.{Telling, as_told, run_so, next_so, same_run, plain_so}
use Rattle.syntax.proofs.JudgedExpressions.{whole_judged, whole_only}

-- ---- before a token that may stand behind it, a thing that spells nothing is left out

pub left : (first : Expected) (empty : Filling first) → Some empty ≡ empty_of first → (lexeme : Lexeme) (place : Position) → stands (class first) lexeme ≡ true → look first lexeme place ≡ left_out
left components empty is lexeme place stand = grind arith
left more_components empty is lexeme place stand = grind arith
left (statements part around) empty is lexeme place stand = grind arith
left (or_else part around) empty is lexeme place stand = grind arith
left (declarations items tags) empty is lexeme place stand = grind arith
left (behind_component before) empty is lexeme place stand = grind arith
left relations empty is lexeme place stand = grind arith
left (steps before) empty is lexeme place stand = grind arith
left (variables before) empty is lexeme place stand = grind arith
left _ empty is lexeme place stand = absurd (cc)

brace_no_else : (lexeme : Lexeme) → stands a_brace lexeme ≡ true → stands a_statement lexeme ≡ true
brace_no_else lexeme stand = grind arith

bracket_no_comma : (lexeme : Lexeme) → stands a_bracket lexeme ≡ true → stands more_sums lexeme ≡ true
bracket_no_comma lexeme stand = grind arith

is_the_one : (begun other : Bool) → (if begun then false else other) ≡ true → other ≡ true
is_the_one begun other e = grind arith

-- the first of these pieces is such a token, if there is one
abbrev opens : Class → List Piece → Bool
opens it [] = true
opens it (piece ∷ pieces) = stands it (lexeme_in piece)

block_opens : (part : Part) (block : Block part) → opens a_statement (block_pieces part block) ≡ true
block_opens part no_more = refl
block_opens reading (and_then (own get) more) = refl
block_opens writing (and_then (own (put_item key value)) more) = refl
block_opens _ (and_then (assigned it expr) more) = refl
block_opens _ _ = refl

-- what stands behind a thing of this class begins so
opens_so : (it : Class) (second : Expected) (filling : Filling second) → is_one it second ≡ true → (lexeme : Lexeme) (pieces : List Piece) → filling_pieces second filling ≡ pieces
    → (pieces ≡ [] → stands (class second) lexeme ≡ true) → (opens it pieces ≡ true) × (pieces ≡ [] → stands it lexeme ≡ true)
opens_so anything second filling is lexeme pieces same further = grind arith
opens_so a_bracket (exactly it) filling is lexeme pieces same further = grind arith
opens_so a_brace (exactly it) filling is lexeme pieces same further = grind arith
opens_so the_word_read (keyword it) filling is lexeme pieces same further = grind arith
opens_so an_end (exactly it) filling is lexeme pieces same further = grind arith
opens_so an_end (nested_brace around) filling is lexeme pieces same further = grind arith
opens_so a_statement (statements part around) filling is lexeme pieces same further = grind (arith, further, block_opens part filling, brace_no_else)
opens_so more_sums more_components [] is lexeme pieces same further = grind (arith, further, bracket_no_comma)
opens_so more_sums more_components (sum ∷ more) is lexeme pieces same further = grind arith
opens_so _ second filling is lexeme pieces same further = absurd (cc)

pub fronts : (first : Expected) (rest : List Expected) (fillings : Fillings rest) (all later : List Spot) → chain (front_of later).0 (first ∷ rest) ≡ true → Spells (fillings_pieces rest fillings) all later
    → stands (class first) (front_of all).0 ≡ true
fronts first [] fillings all later chained spells = ap (λ (list : List Spot). stands (class first) (front_of list).0) spells ∙ chained
fronts first (second ∷ rest) fillings all later chained spells =
    let end = (front_of later).0 in
    let is = is_the_one (is_begun second) (is_one (class first) second) (first_of (admits (class first) second) (chain end (second ∷ rest)) chained) in
    let behind = second_of (admits (class first) second) (chain end (second ∷ rest)) chained in
    by (filling_pieces second fillings.first) refl is (λ them. fronts second rest fillings.rest all later behind them) spells
  where
    by : (pieces : List Piece) → filling_pieces second fillings.first ≡ pieces → is_one (class first) second ≡ true → (Spells (fillings_pieces rest fillings.rest) all later → stands (class second) (front_of all).0 ≡ true)
        → Spells (pieces ++ fillings_pieces rest fillings.rest) all later → stands (class first) (front_of all).0 ≡ true
    by [] same is behind them = (opens_so (class first) second fillings.first is (front_of all).0 [] same (λ none. behind them)).1 refl
    by (piece ∷ pieces) same is behind them =
        ap (stands (class first)) (front_is piece (pieces ++ fillings_pieces rest fillings.rest) all later them) ∙ (opens_so (class first) second fillings.first is (front_of all).0 (piece ∷ pieces) same (λ none. absurd (cc))).0

-- ---- the first token

-- what may be put in the place of a thing
pub may_be_put : (first : Expected) (lexeme : Lexeme) (more : List Expected) → fits first lexeme more ≡ true → follows (is_expression first) (class first) more ≡ true
may_be_put first lexeme more may = second_of (is_known lexeme) (follows (is_expression first) (class first) more) may

pub taken_not_left : (limits : List Position) (more : List Expected) → within limits (taken more) ≡ left_out → ⊥
taken_not_left limits more e = grind arith

-- what the first token of a filling does: it is the same for each filling that begins with it
pub record Taken {first : Expected} {spot : Spot} {move : Move} (it : Turn first spot move) (filling : Filling first) : Type 0 where
  pub limits : List Position
  pub more : List Expected
  pub made : Fillings more → Filling first
  pub is : move ≡ within limits (taken more)
  pub may : follows (is_expression first) (class first) more ≡ true
  pub begins : (later : Fillings more) → Begins spot (filling_pieces first (made later)) (fillings_pieces more later)
  pub later : Fillings more
  pub same : made later ≡ filling
  pub covers : Covers (limits ++ fillings_limits more later) (filling_limits first filling)
  pub others : (other : Filling first) → By it other → (them : Fillings more) × (made them ≡ other)

pub taken_by : {first : Expected} {spot : Spot} {move : Move} (it : Turn first spot move) (filling : Filling first) → By it filling → Taken it filling
taken_by {first} {spot} {move} (takes limits more made is may begins) filling by = record {
  limits = limits;
  more = more;
  made = made;
  is = is;
  may = may_be_put first spot.0 more may;
  begins = begins;
  later = by.0;
  same = by.1;
  covers = by.2;
  others = λ other also. (also.0, also.1);
}
taken_by {first} {spot} {move} _ filling by = absurd by

-- the first tokens of a filling and of what stands behind it
pub data Opening (first : Expected) (filling : Filling first) (rest : List Expected) (back : Fillings rest) (all later : List Spot) : Type 0 where
  leaves : Some filling ≡ empty_of first → filling_limits first filling ≡ [] → look first (front_of all).0 (front_of all).1 ≡ left_out → Spells (fillings_pieces rest back) all later → Opening first filling rest back all later
  begins : (spot : Spot) (spots : List Spot) → all ≡ spot ∷ spots → By (turn first spot.0 spot.1) filling → Opening first filling rest back all later

by_token : (first : Expected) (filling : Filling first) (piece : Piece) (pieces : List Piece) (spot : Spot) → Unfolds first filling (piece ∷ pieces) → IsPiece piece spot → By (turn first spot.0 spot.1) filling
by_token first filling piece pieces spot unfolds is = grind arith

opening_by : (first : Expected) (filling : Filling first) (rest : List Expected) (back : Fillings rest) (all later : List Spot) (pieces : List Piece) → chain (front_of later).0 (first ∷ rest) ≡ true → Unfolds first filling pieces
    → Spells (pieces ++ fillings_pieces rest back) all later → Opening first filling rest back all later
opening_by first filling rest back all later [] chained none spells =
    leaves none.0 none.1 (left first filling none.0 (front_of all).0 (front_of all).1 (fronts first rest back all later chained spells)) spells
opening_by first filling rest back [] later (piece ∷ pieces) chained unfolds spells = absurd spells
opening_by first filling rest back (spot ∷ spots) later (piece ∷ pieces) chained unfolds spells = begins spot spots refl (by_token first filling piece pieces spot unfolds spells.0)

pub opening : (first : Expected) (filling : Filling first) (rest : List Expected) (back : Fillings rest) (all later : List Spot) → is_expression first ≡ false → chain (front_of later).0 (first ∷ rest) ≡ true
    → Spells (filling_pieces first filling ++ fillings_pieces rest back) all later → Opening first filling rest back all later
opening first filling rest back all later plain_one chained spells = opening_by first filling rest back all later (filling_pieces first filling) chained (unfolded first plain_one filling) spells

-- the tokens after the first one spell what is put in its place, and what stands behind
pub spelled_behind : (first : Expected) (rest more : List Expected) (made : Fillings more → Filling first) (filling : Filling first) (later : Fillings more) (back : Fillings rest) (spot : Spot) (spots end : List Spot)
    → Begins spot (filling_pieces first (made later)) (fillings_pieces more later) → made later ≡ filling → Spells (filling_pieces first filling ++ fillings_pieces rest back) (spot ∷ spots) end
    → Spells (fillings_pieces (more ++ rest) (joined more rest later back)) spots end
spelled_behind first rest more made filling later back spot spots end begun same spells = grind (arith, joined_row)

-- ---- the induction

-- a thing is left out
abbrev pub Skips : List Spot → ((stack : List Expected) → Fillings stack → List Spot → Type 0) → Type 0
Skips later Holds = (first : Expected) (rest : List Expected) (filling : Filling first) (back : Fillings rest) (all : List Spot) → is_expression first ≡ false → chain (front_of later).0 (first ∷ rest) ≡ true
    → Some filling ≡ empty_of first → filling_limits first filling ≡ [] → look first (front_of all).0 (front_of all).1 ≡ left_out → Holds rest back all → Holds (first ∷ rest) (filling ▸ back) all

-- its first token is taken
abbrev pub Takes : List Spot → ((stack : List Expected) → Fillings stack → List Spot → Type 0) → Type 0
Takes later Holds = (first : Expected) (rest : List Expected) (filling : Filling first) (back : Fillings rest) (spot : Spot) (spots : List Spot) → is_expression first ≡ false → chain (front_of later).0 (first ∷ rest) ≡ true
    → (it : Taken (turn first spot.0 spot.1) filling) → Holds (it.more ++ rest) (joined it.more rest it.later back) spots → Holds (first ∷ rest) (filling ▸ back) (spot ∷ spots)

-- an expression is read
abbrev pub ReadsWhole : List Spot → ((stack : List Expected) → Fillings stack → List Spot → Type 0) → Type 0
ReadsWhole later Holds = (comparing : Comparing) (rest : List Expected) (filling : Whole comparing) (back : Fillings rest) (all middle : List Spot) → is_begun (whole comparing) ≡ false → chain (front_of later).0 (whole comparing ∷ rest) ≡ true
    → stands (class (whole comparing)) (front_of middle).0 ≡ true → Spells (whole_pieces comparing filling) all middle → Holds rest back middle → Holds (whole comparing ∷ rest) (filling ▸ back) all

module _ (later : List Spot) (Holds : (stack : List Expected) → Fillings stack → List Spot → Type 0) (ended : Holds [] tt later) (skipped : Skips later Holds) (taken_one : Takes later Holds) (read : ReadsWhole later Holds) where
  -- for at most this number of tokens
  abbrev Walks : ℕ → Type 0
  Walks most = (stack : List Expected) (fillings : Fillings stack) (all : List Spot) → length all ≤ most → chain (front_of later).0 stack ≡ true → fresh stack ≡ true → Spells (fillings_pieces stack fillings) all later → Holds stack fillings all

  taken_on : (most : ℕ) (first : Expected) (rest : List Expected) (filling : Filling first) (back : Fillings rest) (spot : Spot) (spots : List Spot) → suc (length spots) ≤ most → ((less : ℕ) → suc less ≡ most → Walks less)
      → is_expression first ≡ false → chain (front_of later).0 (first ∷ rest) ≡ true → By (turn first spot.0 spot.1) filling → Spells (filling_pieces first filling ++ fillings_pieces rest back) (spot ∷ spots) later
      → Holds (first ∷ rest) (filling ▸ back) (spot ∷ spots)
  taken_on zero first rest filling back spot spots few fewer plain_one chained by spells = absurd (omega arith)
  taken_on (suc most) first rest filling back spot spots few fewer plain_one chained by spells =
      let it = taken_by (turn first spot.0 spot.1) filling by in
      let new : follows false (class first) it.more ≡ true = subst (λ (b : Bool). follows b (class first) it.more ≡ true) plain_one it.may in
      let few_more : length spots ≤ most = omega (arith, few) in
      taken_one first rest filling back spot spots plain_one chained it
      (fewer most refl (it.more ++ rest) (joined it.more rest it.later back) spots few_more (chain_on (front_of later).0 (is_expression first) first it.more rest it.may chained)
      (fresh_on (front_of later).0 first it.more rest new chained) (spelled_behind first rest it.more it.made filling it.later back spot spots later (it.begins it.later) it.same spells))

  plain_on : (most : ℕ) (first : Expected) (rest : List Expected) (filling : Filling first) (back : Fillings rest) (all : List Spot) → length all ≤ most → ((less : ℕ) → suc less ≡ most → Walks less)
      → is_expression first ≡ false → chain (front_of later).0 (first ∷ rest) ≡ true → Spells (filling_pieces first filling ++ fillings_pieces rest back) all later → Opening first filling rest back all later
      → (Spells (fillings_pieces rest back) all later → Holds rest back all) → Holds (first ∷ rest) (filling ▸ back) all
  plain_on most first rest filling back all few fewer plain_one chained spells (leaves empty none looks behind) further = skipped first rest filling back all plain_one chained empty none looks (further behind)
  plain_on most first rest filling back all few fewer plain_one chained spells (begins spot spots whole_one by) further =
      subst (Holds (first ∷ rest) (filling ▸ back)) (sym whole_one)
      (taken_on most first rest filling back spot spots (subst (λ (list : List Spot). length list ≤ most) whole_one few) fewer plain_one chained by
      (subst (λ (list : List Spot). Spells (filling_pieces first filling ++ fillings_pieces rest back) list later) whole_one spells))

  walk_on : (most : ℕ) → ((less : ℕ) → suc less ≡ most → Walks less) → Walks most
  walk_on most fewer [] fillings all few chained new spells = subst (Holds [] tt) (sym spells) ended
  walk_on most fewer (whole comparing ∷ rest) fillings all few chained new spells =
      let parts = halves (whole_pieces comparing fillings.first) (fillings_pieces rest fillings.rest) all later spells in
      let short = shorter (whole_pieces comparing fillings.first) all parts.middle parts.first in
      read comparing rest fillings.first fillings.rest all parts.middle (not_begun _ new) chained (fronts (whole comparing) rest fillings.rest parts.middle later chained parts.second) parts.first
      (walk_on most fewer rest fillings.rest parts.middle (omega (arith, few, short)) (chain_rest _ (whole comparing) rest chained) (fresh_rest _ (whole comparing) rest chained) parts.second)
  walk_on most fewer (operand state ∷ rest) fillings all few chained new spells = absurd (cc)
  walk_on most fewer (behind_operand state prod ∷ rest) fillings all few chained new spells = absurd (cc)
  walk_on most fewer (first ∷ rest) fillings all few chained new spells =
      plain_on most first rest fillings.first fillings.rest all few fewer refl chained spells (opening first fillings.first rest fillings.rest all later refl chained spells)
      (λ behind. walk_on most fewer rest fillings.rest all few (chain_rest _ first rest chained) (fresh_rest _ first rest chained) behind)

  walks : (most : ℕ) → Walks most
  walks zero = walk_on zero (λ less e. absurd (omega arith))
  walks (suc most) = walk_on (suc most) (λ less e. let same : most ≡ less = omega arith in subst Walks same (walks most))

  pub walk : (stack : List Expected) (fillings : Fillings stack) (all : List Spot) → chain (front_of later).0 stack ≡ true → fresh stack ≡ true → Spells (fillings_pieces stack fillings) all later → Holds stack fillings all
  walk stack fillings all chained new spells = walks (length all) stack fillings all (search arith) chained new spells

-- ---- what the machine says: it goes on, or a limit is passed at one of their places

module _ (later : List Spot) (behind : List Expected) (telling : Telling) where
  abbrev Told : (stack : List Expected) → Fillings stack → List Spot → Type 0
  Told stack fillings all = Judged (fillings_limits stack fillings) (run_so telling (stack ++ behind) all) (run_so telling behind later)

  skipped_told : Skips later Told
  skipped_told first rest filling back all plain chained empty none looks further =
      let without : run_so telling (first ∷ rest ++ behind) all ≡ run_so telling (rest ++ behind) all = grind (arith, plain_so) in
      judged_behind without (subst (λ (limits : List Position). Judged (limits ++ fillings_limits rest back) (run_so telling (rest ++ behind) all) (run_so telling behind later)) (sym none) further)

  taken_told : Takes later Told
  taken_told first rest filling back spot spots plain chained it further =
      let here = judged_behind (ap (λ (it : Move). followed (met it (rest ++ behind) (next_so telling (rest ++ behind) spot)) (spot ∷ spots) (λ after. run_so telling after spots)) (plain_so telling first spot.0 spot.1 plain ∙ it.is))
      (taken_within telling it.limits it.more (rest ++ behind) spot spots) in
      let all = judged_on here (judged_behind (ap (λ (stack : List Expected). run_so telling stack spots) (sym (append_assoc it.more rest behind))) further) in
      let together = ap (λ (list : List Position). it.limits ++ list) (joined_row filling_limits it.more rest it.later back) ∙ sym (append_assoc it.limits (fillings_limits it.more it.later) (fillings_limits rest back)) in
      let covers = covers_then (covers_same together) (covers_on it.covers (covers_same {a = fillings_limits rest back} refl)) in
      judged_among covers.none covers.some all

  read_told : ReadsWhole later Told
  read_told comparing rest filling back all middle new chained stand spells further = judged_on (whole_judged comparing filling telling (rest ++ behind) all middle new stand spells) further

  told : (stack : List Expected) (fillings : Fillings stack) (all : List Spot) → chain (front_of later).0 stack ≡ true → fresh stack ≡ true → Spells (fillings_pieces stack fillings) all later → Told stack fillings all
  told stack fillings all chained new spells = walk later Told (judged_same refl) skipped_told taken_told read_told stack fillings all chained new spells

-- a key after its opening bracket
pub key_judged : (kind : Kind) (key : Key) (tokens rest : List Spot) (behind : List Expected) (telling : Telling) → ArePieces (named key.collection ∷ sums_pieces key.components ++ a_sign (closing kind)) tokens
    → Judged (key_limits key) (run_so telling (key_rest kind ++ behind) (tokens ++ rest)) (run_so telling behind rest)
key_judged kind key tokens rest behind telling are =
    let fillings : Fillings (key_rest kind) = key.collection ▸ key.components ▸ tt ▸ tt in
    simp append-nil at (told rest behind telling (key_rest kind) fillings (tokens ++ rest) (grind arith) refl (spelled (named key.collection ∷ sums_pieces key.components ++ a_sign (closing kind)) tokens rest are))

pub graph_judged : (graph : GraphText) (spots : List Spot) → Derives graph spots → (telling : Telling) → Judged (graph_limits graph) (run_so telling graph_expected spots) accepted
graph_judged graph spots derives telling = simp append_assoc (simp (append_assoc, append-nil) at (told [] [] telling graph_expected (graph ▸ tt) spots refl refl (graph_spelled graph spots derives)))

-- as the machine reports it
pub graph_told : (graph : GraphText) (spots : List Spot) → Derives graph spots → Judged (graph_limits graph) (run graph_expected spots) accepted
graph_told graph spots derives = judged_behind (sym (same_run spots graph_expected)) (graph_judged graph spots derives as_told)

-- ---- at most one graph text

module _ (later : List Spot) where
  -- no other filling has these tokens
  abbrev Once : (stack : List Expected) → Fillings stack → List Spot → Type 0
  Once stack one all = (two : Fillings stack) → Spells (fillings_pieces stack two) all later → one ≡ two

  skipped_once : Skips later Once
  skipped_once first rest filling back all plain chained empty none looks behind two spells = by (opening first two.first rest two.rest all later plain chained spells)
    where
      by : Opening first two.first rest two.rest all later → filling ▸ back ≡ two
      by (leaves also nothing same them) =
          let here : filling ≡ two.first = cc in
          let there = behind two.rest them in
          λ i. here i ▸ there i
      by (begins spot spots whole_one it) =
          let also = taken_by (turn first spot.0 spot.1) two.first it in
          absurd (taken_not_left also.limits also.more (sym also.is ∙ subst (λ (list : List Spot). look first (front_of list).0 (front_of list).1 ≡ left_out) whole_one looks))

  taken_once : Takes later Once
  taken_once first rest filling back spot spots plain chained it behind two spells = by (spot ∷ spots) refl (opening first two.first rest two.rest (spot ∷ spots) later plain chained spells)
    where
      by : (all : List Spot) → all ≡ spot ∷ spots → Opening first two.first rest two.rest all later → filling ▸ back ≡ two
      by all same (leaves also nothing looks them) = absurd (taken_not_left it.limits it.more (sym it.is ∙ subst (λ (list : List Spot). look first (front_of list).0 (front_of list).1 ≡ left_out) same looks))
      by all same (begins other others whole_one also) =
          let spot_is : other ≡ spot = cc in
          let them = it.others two.first (subst (λ (one : Spot). By (turn first one.0 one.1) two.first) spot_is also) in
          let both = parted it.more rest it.later them.0 back two.rest (behind (joined it.more rest them.0 two.rest) (spelled_behind first rest it.more it.made two.first them.0 two.rest spot spots later (it.begins them.0) them.1 spells)) in
          let here : filling ≡ two.first = sym it.same ∙ ap it.made both.0 ∙ them.1 in
          λ i. here i ▸ both.1 i

  read_once : ReadsWhole later Once
  read_once comparing rest filling back all middle new chained stand spells behind two others =
      let parts = halves (whole_pieces comparing two.first) (fillings_pieces rest two.rest) all later others in
      let here = whole_only comparing filling two.first all middle parts.middle new stand (fronts (whole comparing) rest two.rest parts.middle later chained parts.second) spells parts.first in
      let there = behind two.rest (subst (λ (spots : List Spot). Spells (fillings_pieces rest two.rest) spots later) (sym here.1) parts.second) in
      λ i. here.0 i ▸ there i

pub graph_once : (spots : List Spot) (one two : GraphText) → Derives one spots → Derives two spots → one ≡ two
graph_once spots one two first second =
    let same = walk [] (Once []) (λ two spells. refl) (skipped_once []) (taken_once []) (read_once []) graph_expected (one ▸ tt) spots refl refl (graph_spelled one spots first) (two ▸ tt) (graph_spelled two spots second) in
    λ i. (same i).first
