-- How full pages are, and how many there are room for.
use Rattle.std.proofs.Common.{◌≡◌, inl, inr, ap, sym, ℕ, zero, suc, ◌+◌, ◌-◌, ◌*◌, ◌<◌, ◌≤◌, List, [], ◌∷◌, ◌++◌, length, set, arith, length-append, append_assoc}
use Rattle.std.specs.List.{insert as add}
use Rattle.maps.specs.declared.page.TheConstants.{HALF}
use Rattle.maps.specs.Paged.{AreFilled, AreHalfFull, all_of, last_page, page_at}
use Rattle.maps.specs.PagesKept.{IsEnough}

module _ {X : Type 0} where
  -- all pages but the last have at least half of the entries that would fill them
  pub filled_count : (pages : List (List X)) → AreFilled pages → HALF * (length pages - 1) ≤ length (all_of pages)
  filled_count [] filled = omega arith
  filled_count (page ∷ []) filled = omega arith
  filled_count (page ∷ next ∷ pages) filled = omega (arith, filled.0, filled_count (next ∷ pages) filled.1, length-append page (all_of (next ∷ pages)))

  -- another page in the place of one, which is no shorter
  pub filled_set : (pages : List (List X)) (n : ℕ) (page : List X) → n < length pages → length (page_at pages n) ≤ length page → AreFilled pages → AreFilled (set pages n page)
  filled_set [] n page within longer filled = tt
  filled_set (here ∷ []) zero page within longer filled = omega (arith, filled, longer)
  filled_set (here ∷ []) (suc n) page within longer filled = absurd (omega (arith, within))
  filled_set (here ∷ next ∷ pages) zero page within longer filled = (omega (arith, filled.0, longer), filled.1)
  filled_set (here ∷ next ∷ []) (suc zero) page within longer filled = (filled.0, omega (arith, filled.1, longer))
  filled_set (here ∷ next ∷ []) (suc (suc n)) page within longer filled = absurd (omega (arith, within))
  filled_set (here ∷ next ∷ other ∷ pages) (suc n) page within longer filled = front here n filled.0 (filled_set (next ∷ other ∷ pages) n page (omega (arith, within)) longer filled.1)
    where
      front : (here : List X) (n : ℕ) → HALF ≤ length here → AreFilled (set (next ∷ other ∷ pages) n page) → AreFilled (here ∷ set (next ∷ other ∷ pages) n page)
      front here zero half rest = (half, rest)
      front here (suc n) half rest = (half, rest)

  -- one page is divided in two
  pub filled_divided : (pages : List (List X)) (n : ℕ) (lower upper : List X) → n < length pages → HALF ≤ length lower → HALF ≤ length upper → AreFilled pages → AreFilled (add (set pages n lower) (suc n) upper)
  filled_divided [] n lower upper within low high filled = absurd (omega (arith, within))
  filled_divided (here ∷ []) zero lower upper within low high filled = (low, omega (arith, high))
  filled_divided (here ∷ []) (suc n) lower upper within low high filled = absurd (omega (arith, within))
  filled_divided (here ∷ next ∷ pages) zero lower upper within low high filled = (low, (high, filled.1))
  filled_divided (here ∷ next ∷ pages) (suc n) lower upper within low high filled =
      front n (filled_divided (next ∷ pages) n lower upper (omega (arith, within)) low high filled.1)
    where
      front : (n : ℕ) → AreFilled (add (set (next ∷ pages) n lower) (suc n) upper) → AreFilled (here ∷ add (set (next ∷ pages) n lower) (suc n) upper)
      front zero rest = (filled.0, rest)
      front (suc n) rest = (filled.0, rest)

  -- one more page, of one entry, after pages that are half full
  pub filled_behind : (pages : List (List X)) (e : X) → AreHalfFull pages → AreFilled (pages ++ (e ∷ []) ∷ [])
  filled_behind [] e half = omega arith
  filled_behind (page ∷ []) e half = (half.0, omega arith)
  filled_behind (page ∷ next ∷ pages) e half = (half.0, filled_behind (next ∷ pages) e half.1)

  -- if the last page is half full, each is
  pub all_half_full : (pages : List (List X)) → AreFilled pages → HALF ≤ length (last_page pages) → AreHalfFull pages
  all_half_full [] filled last = tt
  all_half_full (page ∷ []) filled last = (last, tt)
  all_half_full (page ∷ next ∷ pages) filled last = (filled.0, all_half_full (next ∷ pages) filled.1 last)

  -- what two parts have stands where the page stood
  pub all_divided : (pages : List (List X)) (n : ℕ) (lower upper : List X) → n < length pages → all_of (add (set pages n lower) (suc n) upper) ≡ all_of (set pages n (lower ++ upper))
  all_divided [] n lower upper within = absurd (omega (arith, within))
  all_divided (here ∷ pages) zero lower upper within = sym (append_assoc lower upper (all_of pages))
  all_divided (here ∷ pages) (suc n) lower upper within = ap (λ es. here ++ es) (all_divided pages n lower upper (omega (arith, within)))

-- ---- room

-- if there is room, there is a spare page
pub has_spare : (pages spare count room : ℕ) → IsEnough pages spare count room → 0 < room → HALF * (pages - 1) ≤ count → 0 < spare
has_spare pages spare count room (inl each) some filled = omega (arith, each, some)
has_spare pages zero count room (inr halves) some filled = absurd (omega (arith, halves, some, filled))
has_spare pages (suc spare) count room (inr halves) some filled = omega arith

-- one more entry, in a page that is there
pub enough_in_page : (pages spare count room : ℕ) → IsEnough pages spare count room → 0 < room → IsEnough pages spare (count + 1) (room - 1)
enough_in_page pages spare count room (inl each) some = inl (omega (arith, each))
enough_in_page pages spare count room (inr halves) some = inr (omega (arith, halves, some))

-- one more entry, in a page that was spare
pub enough_in_new : (pages spare left count room : ℕ) → IsEnough pages spare count room → 0 < room → left + 1 ≡ spare → IsEnough (pages + 1) left (count + 1) (room - 1)
enough_in_new pages spare left count room (inl each) some is = inl (omega (arith, each, some, is))
enough_in_new pages spare left count room (inr halves) some is =
    let same : (pages + 1) + left - 1 ≡ pages + spare - 1 = omega (arith, is) in
    inr (omega (arith, halves, some, ap (λ n. HALF * n) same))
