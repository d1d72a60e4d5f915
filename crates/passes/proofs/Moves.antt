-- Each step of the table keeps its rule.
use Rattle.std.proofs.Common.{◌≡◌, ◌≢◌, ◌⊎◌, ℕ, zero, suc, ◌+◌, ◌%◌, ◌^◌, ◌<◌, Bool, true, false, true≢false, eqb, eq-eqb, ne_eqb, List, [], ◌∷◌, ◌++◌, length, set, refl, sym, ap, ◌∙◌, subst, inl, inr, ⊎_elim, arith, if◌then◌else◌, Option, Some, None, IfSome}
use Rattle.std.specs.Prelude.{slice_index, slice_set, bit_or}
use mathlib.Core.List.{IsPrefix}
use mathlib.Core.Option.{some, none, some-injective, some-ne-none}
use lib.ListN.{get_elem?}
use Rattle.terms.specs.Commits.{Commit}
use Rattle.atomic_table.specs.Table.{State, step, keeps, stepped, opening, Allows, Splits, Joins}
use Rattle.atomic_table.proofs.Lists.{at_set}
use Rattle.passes.specs.Known.{Known, Made, Book, Desk, SeatView, nobody, pass, desk, commits, count_of, newcomer, first_desk, up_to_date, with_commit, told_of, asked_of, heard_of, written, one_more}
use Rattle.passes.specs.Rule.{IsInHistory, HasNoneFrom, HasAsker, IsPassOf, Fits, IsRuled}
use Rattle.passes.specs.Steps.{Seated, lent, guest_gone, guest_out, one_made, new_one, written_to, telling, asking}
use Rattle.passes.specs.Steps as steps
use Rattle.passes.proofs.Lists.{prefix_self, prefix_more, commits_append, count_prefix, count_more, made_by_own, made_by_other, at_end}

-- ---- places

-- the place of one pass changes
abbrev moved : (ℕ → ℕ) → ℕ → ℕ → ℕ → ℕ
moved home number seat other = if eqb other number then seat else home other

moved_here : (home : ℕ → ℕ) (number seat : ℕ) → moved home number seat number ≡ seat
moved_here home number seat = ap (λ same. if same then seat else home number) (eq-eqb number number refl)

moved_else : (home : ℕ → ℕ) (number seat other : ℕ) → other ≢ number → moved home number seat other ≡ home other
moved_else home number seat other apart = ap (λ same. if same then seat else home other) (ne_eqb other number apart)

-- what the rule says of each seat, where one changes its view ..
each_set : (book : Book) (stop keeper : ℕ) (home : ℕ → ℕ) (asked : ℕ → Bool) (views : List SeatView) (seat : ℕ) (view : SeatView)
    → ((other : ℕ) (its : SeatView) → other ≢ seat → get_elem? views other ≡ some its → Fits book stop keeper home asked other its) → Fits book stop keeper home asked seat view
    → (other : ℕ) (its : SeatView) → get_elem? (set views seat view) other ≡ some its → Fits book stop keeper home asked other its
each_set book stop keeper home asked views seat view others own other its here =
    ⊎_elim
    (λ (at : (other ≡ seat) × (view ≡ its)). subst (λ (both : ℕ × SeatView). Fits book stop keeper home asked both.0 both.1) (λ i. (sym at.0 i, at.1 i)) own)
    (λ (at : (other ≢ seat) × (get_elem? views other ≡ some its)). others other its at.0 at.1)
    (at_set views seat other view its here)

-- .. and where a seat is added
each_end : (book : Book) (stop keeper : ℕ) (home : ℕ → ℕ) (asked : ℕ → Bool) (views : List SeatView) (view : SeatView)
    → ((other : ℕ) (its : SeatView) → get_elem? views other ≡ some its → Fits book stop keeper home asked other its) → Fits book stop keeper home asked (length views) view
    → (other : ℕ) (its : SeatView) → get_elem? (views ++ view ∷ []) other ≡ some its → Fits book stop keeper home asked other its
each_end book stop keeper home asked views view others own other its here =
    ⊎_elim
    (λ (at : get_elem? views other ≡ some its). others other its at)
    (λ (at : (other ≡ length views) × (view ≡ its)). subst (λ (both : ℕ × SeatView). Fits book stop keeper home asked both.0 both.1) (λ i. (sym at.0 i, at.1 i)) own)
    (at_end views view its other here)

-- what the rule says of a seat holds for another book and other places too, if it does of the seat's pass, and if the keeper's book is the same
elsewhere : (book now : Book) (stop stop' keeper : ℕ) (home home' : ℕ → ℕ) (asked asked' : ℕ → Bool) (seat : ℕ) (view : SeatView)
    → (seat ≢ keeper) ⊎ (book ≡ now)
    → ((known : Known) → IsPassOf book stop home asked seat known → IsPassOf now stop' home' asked' seat known)
    → Fits book stop keeper home asked seat view → Fits now stop' keeper home' asked' seat view
elsewhere book now stop stop' keeper home home' asked asked' seat nobody which goes fits = tt
elsewhere book now stop stop' keeper home home' asked asked' seat (pass known) which goes fits = goes known fits
elsewhere book now stop stop' keeper home home' asked asked' seat (desk d) which goes fits =
    ⊎_elim (λ (apart : seat ≢ keeper). absurd (apart fits.0)) (λ (same : book ≡ now). (fits.0, fits.1 ∙ same, guest d.guest fits.2)) which
  where
    guest : (own : Option Known) → IfSome own (IsPassOf book stop home asked seat) → IfSome own (IsPassOf now stop' home' asked' seat)
    guest None is = tt
    guest (Some known) is = goes known is

-- a pass whose place stays, as another's changes
stays : (book : Book) (stop : ℕ) (home : ℕ → ℕ) (asked : ℕ → Bool) (number place seat : ℕ) (known : Known) → known.number ≢ number → IsPassOf book stop home asked seat known → IsPassOf book stop (moved home number place) asked seat known
stays book stop home asked number place seat known apart is = record {
  at_home = moved_else home number place known.number apart ∙ is.at_home;
  numbered = is.numbered;
  in_history = is.in_history;
  asks = is.asks;
  hears = is.hears;
}

-- and the pass whose place changes
comes : (book : Book) (stop : ℕ) (home : ℕ → ℕ) (asked : ℕ → Bool) (seat place : ℕ) (known : Known) → IsPassOf book stop home asked seat known → IsPassOf book stop (moved home known.number place) asked place known
comes book stop home asked seat place known is = record {
  at_home = moved_here home known.number place;
  numbered = is.numbered;
  in_history = is.in_history;
  asks = is.asks;
  hears = is.hears;
}

-- passes with different seats have different numbers
apart_from : (book : Book) (stop : ℕ) (home : ℕ → ℕ) (asked : ℕ → Bool) (seat other : ℕ) (one two : Known) → other ≢ seat → IsPassOf book stop home asked seat one → IsPassOf book stop home asked other two → two.number ≢ one.number
apart_from book stop home asked seat other one two apart is its same = apart (sym its.at_home ∙ (ap home same ∙ is.at_home))

-- ---- the first seat

pub begins : IsRuled (opening (0 ∷ 0 ∷ []) [] (desk first_desk))
begins = record {
  book = first_desk.book;
  stop = 0;
  keeper = 0;
  home = λ _. 0;
  asked = λ _. false;
  words = refl;
  flag = inl refl;
  asker = (λ set. absurd (omega (arith, set)), λ (one : HasAsker 0 (λ _. false)). absurd (true≢false (sym one.2)));
  none_else = λ _ _. refl;
  each = at;
}
  where
    at : (seat : ℕ) (view : SeatView) → get_elem? (desk first_desk ∷ []) seat ≡ some view → Fits first_desk.book 0 0 (λ _. 0) (λ _. false) seat view
    at zero view here = subst (Fits first_desk.book 0 0 (λ _. 0) (λ _. false) 0) (some-injective (desk first_desk) view here) (refl, refl, tt)
    at (suc seat) view here = absurd (some-ne-none view (sym here))

-- ---- steps that change one view, and no word

looks : (state : State (Unit {0}) SeatView) (h : IsRuled state) (word seat : ℕ) (slots : List (ℕ × Unit {0})) (view : SeatView) → (word ≡ 0) ⊎ (word ≡ 1) → Fits h.book h.stop h.keeper h.home h.asked seat view
    → IsRuled (stepped state word (slice_index state.words word) seat slots view keeps)
looks state h word seat slots view which own = record {
  book = h.book;
  stop = h.stop;
  keeper = h.keeper;
  home = h.home;
  asked = h.asked;
  words = ⊎_elim
      (λ (is : word ≡ 0). subst (λ (n : ℕ). slice_set state.words n (slice_index state.words n) ≡ count_of (commits h.book.history) ∷ h.stop ∷ []) (sym is) (ap (λ words. slice_set words 0 (slice_index words 0)) h.words))
      (λ (is : word ≡ 1). subst (λ (n : ℕ). slice_set state.words n (slice_index state.words n) ≡ count_of (commits h.book.history) ∷ h.stop ∷ []) (sym is) (ap (λ words. slice_set words 1 (slice_index words 1)) h.words))
      which;
  flag = h.flag;
  asker = h.asker;
  none_else = h.none_else;
  each = each_set h.book h.stop h.keeper h.home h.asked state.views seat view (λ other its _ there. h.each other its there) own;
}

-- the keeper compares its guest with the book
pub learns : (slots seat : ℕ) (d : Desk) (held : List (ℕ × Unit {0})) → Allows IsRuled slots seat (desk d, held) 0 (λ n. n) (steps.Learns (step slots 0 0 0 none) (desk d, held))
learns slots seat d held state h _ at _ =
    let fits = h.each seat (desk d) at in (
      desk d,
      keeps,
      tt,
      looks state h 0 seat held (desk d) (inl refl) fits,
      (
        refl,
        record {
          guest = subst (λ (book : Book). IfSome d.guest (IsInHistory book.history)) (sym fits.1) (guest d.guest fits.2);
          none_else = subst (λ (book : Book). HasNoneFrom book.passes book.history) (sym fits.1) h.none_else;
        },
      ),
    )
  where
    guest : (own : Option Known) → IfSome own (IsPassOf h.book h.stop h.home h.asked seat) → IfSome own (IsInHistory h.book.history)
    guest None is = tt
    guest (Some known) is = is.in_history

-- a pass learns how many events there are
pub counts : (slots seat : ℕ) (known : Known) (held : List (ℕ × Unit {0})) → Allows IsRuled slots seat (pass known, held) 0 (λ n. n) (steps.Counts (step slots 0 0 0 none) (pass known, held))
counts slots seat known held state h _ at _ =
    let is = h.each seat (pass known) at in
    let old = is.in_history in
    let found : slice_index state.words 0 ≡ count_of (commits h.book.history) = ap (λ words. slice_index words 0) h.words in (
      pass (told_of (slice_index state.words 0) known),
      keeps,
      tt,
      looks state h 0 seat held (pass (told_of (slice_index state.words 0) known)) (inl refl) (record {
        at_home = is.at_home;
        numbered = is.numbered;
        in_history = record { seen = old.seen; mine = old.mine; told = omega (arith, found) };
        asks = is.asks;
        hears = is.hears;
      }),
      (refl, (omega (arith, found, old.told), omega (arith, found, count_prefix known.seen (commits h.book.history) old.seen))),
    )

-- a pass that asked is among those that did
asker_of : (book : Book) (stop : ℕ) (home : ℕ → ℕ) (asked : ℕ → Bool) (seat : ℕ) (known : Known) → IsPassOf book stop home asked seat known → known.asked ≡ true → HasAsker book.passes asked
asker_of book stop home asked seat known is asks = (known.number, is.numbered, sym is.asks ∙ asks)

-- a pass learns whether a stop was asked
pub hears : (slots seat : ℕ) (known : Known) (held : List (ℕ × Unit {0})) → Allows IsRuled slots seat (pass known, held) 1 (λ n. n) (steps.Hears (step slots 1 0 0 none) (pass known, held))
hears slots seat known held state h _ at _ =
    let is = h.each seat (pass known) at in
    let found : slice_index state.words 1 ≡ h.stop = ap (λ words. slice_index words 1) h.words in
    ⊎_elim
    (λ (zero_there : h.stop ≡ 0). (
      pass known,
      keeps,
      tt,
      looks state h 1 seat held (pass known) (inr refl) is,
      inl (
        found ∙ zero_there,
        (
          never known.asked (λ asks. omega (arith, zero_there, h.asker.1 (asker_of h.book h.stop h.home h.asked seat known is asks))),
          never known.heard (λ heard. omega (arith, zero_there, is.hears heard)),
        ),
        refl,
      ),
    ))
    (λ (one_there : h.stop ≡ 1). (
      pass (heard_of true known),
      keeps,
      tt,
      looks state h 1 seat held (pass (heard_of true known)) (inr refl) (record {
        at_home = is.at_home;
        numbered = is.numbered;
        in_history = record { seen = is.in_history.seen; mine = is.in_history.mine; told = is.in_history.told };
        asks = is.asks;
        hears = λ _. one_there;
      }),
      inr (found ∙ one_there, refl),
    ))
    h.flag
  where
    never : (asked : Bool) → (asked ≡ true → ⊥) → asked ≡ false
    never true not = absurd (not refl)
    never false not = refl

-- ---- a stop is asked

-- one pass more has asked
abbrev marked : (ℕ → Bool) → ℕ → ℕ → Bool
marked asked number other = if eqb other number then true else asked other

marked_here : (asked : ℕ → Bool) (number : ℕ) → marked asked number number ≡ true
marked_here asked number = ap (λ same. if same then true else asked number) (eq-eqb number number refl)

marked_else : (asked : ℕ → Bool) (number other : ℕ) → other ≢ number → marked asked number other ≡ asked other
marked_else asked number other apart = ap (λ same. if same then true else asked other) (ne_eqb other number apart)

pub asks : (slots seat : ℕ) (known : Known) (held : List (ℕ × Unit {0})) → Allows IsRuled slots seat (pass known, held) 1 (λ n. bit_or n 1) (steps.Asks (step slots 1 1 0 none) (pass known, held))
asks slots seat known held state h _ at _ =
    let is = h.each seat (pass known) at in
    let number : ℕ = known.number in
    let asked = marked h.asked number in
    let one_then : bit_or h.stop 1 ≡ 1 = ⊎_elim (λ (is_zero : h.stop ≡ 0). ap (λ n. bit_or n 1) is_zero) (λ (is_one : h.stop ≡ 1). ap (λ n. bit_or n 1) is_one) h.flag in (
      pass (asked_of known),
      keeps,
      tt,
      record {
        book = h.book;
        stop = 1;
        keeper = h.keeper;
        home = h.home;
        asked = asked;
        words = ap (λ words. slice_set words 1 (bit_or (slice_index words 1) 1)) h.words ∙ ap (λ (n : ℕ). count_of (commits h.book.history) ∷ n ∷ []) one_then;
        flag = inr refl;
        asker = (λ _. (number, is.numbered, marked_here h.asked number), λ _. refl);
        none_else = h.none_else;
        each = each_set h.book 1 h.keeper h.home asked state.views seat (pass (asked_of known))
            (λ other its apart there. elsewhere h.book h.book h.stop 1 h.keeper h.home h.home h.asked asked other its (inr refl)
            (λ own was. record {
              at_home = was.at_home;
              numbered = was.numbered;
              in_history = was.in_history;
              asks = was.asks ∙ sym (marked_else h.asked number own.number (apart_from h.book h.stop h.home h.asked seat other known own apart is was));
              hears = λ _. refl;
            })
            (h.each other its there)) (record {
              at_home = is.at_home;
              numbered = is.numbered;
              in_history = record { seen = is.in_history.seen; mine = is.in_history.mine; told = is.in_history.told };
              asks = sym (marked_here h.asked number);
              hears = λ _. refl;
            });
      },
      refl,
    )

-- ---- a commit is added

-- what a longer history has of another pass
others_history : (history : List Made) (number : ℕ) (commit : Commit) (known : Known) → number ≢ known.number → IsInHistory history known → IsInHistory (history ++ record { pass = number; commit = commit } ∷ []) known
others_history history number commit known apart was = record {
  seen = subst (IsPrefix known.seen) (sym (commits_append history (record { pass = number; commit = commit } ∷ []))) (prefix_more known.seen (commits history) (commit ∷ []) was.seen);
  mine = made_by_other known.number number commit history apart ∙ was.mine;
  told = omega (arith, was.told, count_more history number commit);
}

-- and what it has of the pass that made the commit
own_history : (history : List Made) (commit : Commit) (known : Known) → IsInHistory history known → IsInHistory (history ++ record { pass = known.number; commit = commit } ∷ []) (with_commit commit known)
own_history history commit known was = record {
  seen = subst (IsPrefix known.seen) (sym (commits_append history (record { pass = known.number; commit = commit } ∷ []))) (prefix_more known.seen (commits history) (commit ∷ []) was.seen);
  mine = made_by_own known.number commit history ∙ ap (λ all. all ++ commit ∷ []) was.mine;
  told = omega (arith, was.told, count_more history known.number commit);
}

-- the keeper adds a commit of this many events for its guest
pub adds : (slots seat count : ℕ) (commit : Commit) (book : Book) (known : Known) (held : List (ℕ × Unit {0})) → count ≡ length commit → count_of (commits book.history) + count < 2 ^ 64
    → Allows IsRuled slots seat (desk record { book = book; guest = Some known }, held) 0 (λ n. (n + count) % 2 ^ 64) (steps.Adds commit (step slots 0 count 0 none) (desk record { book = book; guest = Some known }, held))
adds slots seat count commit book known held counted room state h _ at _ =
    let fits = h.each seat (desk record { book = book; guest = Some known }) at in
    let same : book ≡ h.book = fits.1 in
    let is = fits.2 in
    let number : ℕ = known.number in
    let new : Book = written number commit h.book in
    let longer : count_of (commits h.book.history) + count ≡ count_of (commits new.history) = omega (arith, counted, count_more h.book.history number commit) in
    let small : count_of (commits h.book.history) + count < 2 ^ 64 = subst (λ (b : Book). count_of (commits b.history) + count < 2 ^ 64) same room in
    let found : slice_index state.words 0 ≡ count_of (commits h.book.history) = ap (λ words. slice_index words 0) h.words in
    let sum : (slice_index state.words 0 + count) % 2 ^ 64 ≡ count_of (commits new.history) = omega (arith, found, longer, small) in
    let view : SeatView = desk record { book = written number commit book; guest = Some (with_commit commit known) } in (
      view,
      keeps,
      tt,
      record {
        book = new;
        stop = h.stop;
        keeper = h.keeper;
        home = h.home;
        asked = h.asked;
        words = ap (λ words. slice_set words 0 ((slice_index state.words 0 + count) % 2 ^ 64)) h.words ∙ ap (λ (n : ℕ). n ∷ h.stop ∷ []) sum;
        flag = h.flag;
        asker = h.asker;
        none_else = λ other le. made_by_other other number commit h.book.history (λ same_number. absurd (omega (arith, same_number, le, is.numbered))) ∙ h.none_else other le;
        each = each_set new h.stop h.keeper h.home h.asked state.views seat view
            (λ other its apart there. elsewhere h.book new h.stop h.stop h.keeper h.home h.home h.asked h.asked other its (inl (λ at_desk. apart (at_desk ∙ sym fits.0)))
            (λ own was. record {
              at_home = was.at_home;
              numbered = was.numbered;
              in_history = others_history h.book.history number commit own (λ same_number. apart_from h.book h.stop h.home h.asked seat other known own apart is was (sym same_number)) was.in_history;
              asks = was.asks;
              hears = was.hears;
            })
            (h.each other its there)) (
              fits.0,
              ap (written number commit) same,
              record {
                at_home = is.at_home;
                numbered = is.numbered;
                in_history = own_history h.book.history commit known is.in_history;
                asks = is.asks;
                hears = is.hears;
              },
            );
      },
      refl,
    )

-- ---- passes

-- a new pass has not asked
abbrev cleared : (ℕ → Bool) → ℕ → ℕ → Bool
cleared asked number other = if eqb other number then false else asked other

cleared_here : (asked : ℕ → Bool) (number : ℕ) → cleared asked number number ≡ false
cleared_here asked number = ap (λ same. if same then false else asked number) (eq-eqb number number refl)

cleared_else : (asked : ℕ → Bool) (number other : ℕ) → other ≢ number → cleared asked number other ≡ asked other
cleared_else asked number other apart = ap (λ same. if same then false else asked other) (ne_eqb other number apart)

-- so who has asked is one of those before it
before : (asked : ℕ → Bool) (number : ℕ) → HasAsker (number + 1) (cleared asked number) → HasAsker number asked
before asked number one =
    let apart : one.0 ≢ number = λ same. true≢false (sym one.2 ∙ ap (cleared asked number) same ∙ cleared_here asked number) in
    (one.0, omega (arith, one.1, apart), sym (cleared_else asked number one.0 apart) ∙ one.2)

-- the keeper makes a pass
pub makes : (seat : ℕ) (d : Desk) → Splits IsRuled seat (desk d) (desk (one_more d)) (pass (newcomer d.book.passes))
makes seat d state h at =
    let fits = h.each seat (desk d) at in
    let number : ℕ = h.book.passes in
    let new : Book = record { history = h.book.history; passes = number + 1 } in
    let place : ℕ = length (set state.views seat (desk (one_more d))) in
    let home = moved h.home number place in
    let asked = cleared h.asked number in
    let same : d.book ≡ h.book = fits.1 in
    let kept : (other : ℕ) (known : Known) → IsPassOf h.book h.stop h.home h.asked other known → IsPassOf new h.stop home asked other known
    = λ other known was. record {
      at_home = moved_else h.home number place known.number (λ same_number. absurd (omega (arith, same_number, was.numbered))) ∙ was.at_home;
      numbered = omega (arith, was.numbered);
      in_history = was.in_history;
      asks = was.asks ∙ sym (cleared_else h.asked number known.number (λ same_number. absurd (omega (arith, same_number, was.numbered))));
      hears = was.hears;
    } in
    let one : IsPassOf new h.stop home asked place (newcomer number) = record {
      at_home = moved_here h.home number place;
      numbered = omega arith;
      in_history = record { seen = (commits h.book.history, refl); mine = h.none_else number (omega arith); told = omega arith };
      asks = sym (cleared_here h.asked number);
      hears = λ heard. absurd (true≢false (sym heard));
    } in record {
      book = new;
      stop = h.stop;
      keeper = h.keeper;
      home = home;
      asked = asked;
      words = h.words;
      flag = h.flag;
      asker = (
        λ stops. let was = h.asker.0 stops in (was.0, omega (arith, was.1), cleared_else h.asked number was.0 (λ same_number. absurd (omega (arith, same_number, was.1))) ∙ was.2),
        λ (one_asked : HasAsker (number + 1) asked). h.asker.1 (before h.asked number one_asked),
      );
      none_else = λ other le. h.none_else other (omega (arith, le));
      each = each_end new h.stop h.keeper home asked (set state.views seat (desk (one_more d))) (pass (newcomer d.book.passes))
          (each_set new h.stop h.keeper home asked state.views seat (desk (one_more d))
          (λ other its apart there. elsewhere h.book new h.stop h.stop h.keeper h.home home h.asked asked other its (inl (λ at_desk. apart (at_desk ∙ sym fits.0))) (kept other) (h.each other its there))
          (fits.0, ap (λ (b : Book). record { history = b.history; passes = b.passes + 1 }) same, guest kept d.guest fits.2))
          (subst (λ (b : Book). IsPassOf new h.stop home asked place (newcomer b.passes)) (sym same) one);
    }
  where
    guest : {new : Book} {home : ℕ → ℕ} {asked : ℕ → Bool} → ((other : ℕ) (known : Known) → IsPassOf h.book h.stop h.home h.asked other known → IsPassOf new h.stop home asked other known) → (own : Option Known) → IfSome own (IsPassOf h.book h.stop h.home h.asked seat) → IfSome own (IsPassOf new h.stop home asked seat)
    guest kept None is = tt
    guest kept (Some known) is = kept seat known is

-- a pass is lent to the keeper
pub lends : (seat : ℕ) (book : Book) (other : ℕ) (known : Known) → Joins IsRuled seat (desk record { book = book; guest = None }) other (pass known) (desk record { book = book; guest = Some known }) nobody
lends seat book other known state h at apart there =
    let view : SeatView = desk record { book = book; guest = Some known } in
    let was : get_elem? state.views other ≡ some (pass known) = ⊎_elim (λ (here : (other ≡ seat) × (view ≡ pass known)). absurd (apart here.0)) (λ (here : (other ≢ seat) × (get_elem? state.views other ≡ some (pass known))). here.1) (at_set state.views seat other view (pass known) there) in
    let is = h.each other (pass known) was in
    let fits = h.each seat (desk record { book = book; guest = None }) at in
    let home = moved h.home known.number seat in
    let rest : (place : ℕ) (its : SeatView) → place ≢ other → get_elem? state.views place ≡ some its → Fits h.book h.stop h.keeper home h.asked place its
    = λ place its away here. elsewhere h.book h.book h.stop h.stop h.keeper h.home home h.asked h.asked place its (inr refl)
    (λ own its_own. stays h.book h.stop h.home h.asked known.number seat place own (apart_from h.book h.stop h.home h.asked other place known own away is its_own) its_own)
    (h.each place its here) in record {
      book = h.book;
      stop = h.stop;
      keeper = h.keeper;
      home = home;
      asked = h.asked;
      words = h.words;
      flag = h.flag;
      asker = h.asker;
      none_else = h.none_else;
      each = λ place its here. ⊎_elim
          (λ (spent : (place ≡ other) × (nobody ≡ its)). subst (λ (view' : SeatView). Fits h.book h.stop h.keeper home h.asked place view') spent.1 tt)
          (λ (left : (place ≢ other) × (get_elem? (set state.views seat view) place ≡ some its)). ⊎_elim
          (λ (own : (place ≡ seat) × (view ≡ its)). subst (λ (both : ℕ × SeatView). Fits h.book h.stop h.keeper home h.asked both.0 both.1) (λ i. (sym own.0 i, own.1 i)) (fits.0, fits.1, comes h.book h.stop h.home h.asked other seat known is))
          (λ (others : (place ≢ seat) × (get_elem? state.views place ≡ some its)). rest place its left.0 others.1)
          (at_set state.views seat place view its left.1))
          (at_set (set state.views seat view) other place nobody its here);
    }

-- the pass is given back, and has seen all
pub returns : (seat : ℕ) (book : Book) (known : Known) → Splits IsRuled seat (desk record { book = book; guest = Some known }) (desk record { book = book; guest = None }) (pass (up_to_date book.history known))
returns seat book known state h at =
    let fits = h.each seat (desk record { book = book; guest = Some known }) at in
    let is = fits.2 in
    let own = comes h.book h.stop h.home h.asked seat (length (set state.views seat (desk record { book = book; guest = None }))) known is in
    let place : ℕ = length (set state.views seat (desk record { book = book; guest = None })) in
    let home = moved h.home known.number place in record {
      book = h.book;
      stop = h.stop;
      keeper = h.keeper;
      home = home;
      asked = h.asked;
      words = h.words;
      flag = h.flag;
      asker = h.asker;
      none_else = h.none_else;
      each = each_end h.book h.stop h.keeper home h.asked (set state.views seat (desk record { book = book; guest = None })) (pass (up_to_date book.history known))
          (each_set h.book h.stop h.keeper home h.asked state.views seat (desk record { book = book; guest = None })
          (λ other its apart there. elsewhere h.book h.book h.stop h.stop h.keeper h.home home h.asked h.asked other its (inr refl)
          (λ its_own was. stays h.book h.stop h.home h.asked known.number place other its_own (apart_from h.book h.stop h.home h.asked seat other known its_own apart is was) was)
          (h.each other its there))
          (fits.0, fits.1, tt))
          (record {
            at_home = own.at_home;
            numbered = own.numbered;
            in_history = record {
              seen = subst (λ (b : Book). IsPrefix (commits b.history) (commits h.book.history)) (sym fits.1) (prefix_self (commits h.book.history));
              mine = own.in_history.mine;
              told = own.in_history.told;
            };
            asks = own.asks;
            hears = own.hears;
          });
    }
