-- How many comparisons a search makes.
use Rattle.std.proofs.Common.{◌+◌, ◌*◌, ◌/◌, ◌^◌, ◌<◌, ◌≤◌, ℕ, zero, suc, List, [], ◌∷◌, ◌++◌, length, arith, length-append}
use Rattle.std.proofs.Math.Nat.{mul-le-mul_left, pow-suc}
use Rattle.maps.specs.declared.page.TheConstants.{HALF}
use Rattle.maps.specs.Paged.{AreFilled, all_of, page_at}
use Rattle.maps.proofs.Halves.{filled_count}

-- after so many steps, the rest can be searched with so many more that all are no more than one for each digit
abbrev pub Leaves : (rest steps start digits : ℕ) → Type 0
Leaves rest steps start digits = (left : ℕ) × (rest < 2 ^ left) × (steps + left ≤ start + digits)

-- a comparison leaves half, and one digit less
pub digit_less : (size rest steps new start digits : ℕ) → 0 < size → 2 * rest ≤ size → new ≤ steps + 1 → Leaves size steps start digits → Leaves rest new start digits
digit_less size rest steps new start digits some half one (zero, small, few) = absurd (omega (arith, small, some))
digit_less size rest steps new start digits some half one (suc left, small, few) = (left, omega (arith, small, half, pow-suc 2 left), omega (arith, few, one))

-- the same where both parts have an entry
abbrev pub LeavesSome : (rest steps start digits : ℕ) → Type 0
LeavesSome rest steps start digits = (left : ℕ) × (rest ≤ 2 ^ left) × (steps + left ≤ start + digits)

pub part_less : (size rest steps new start digits : ℕ) → 1 < size → 2 * rest ≤ size + 1 → new ≤ steps + 1 → LeavesSome size steps start digits → LeavesSome rest new start digits
part_less size rest steps new start digits some half one (zero, small, few) = absurd (omega (arith, small, some))
part_less size rest steps new start digits some half one (suc left, small, few) = (left, omega (arith, small, half, pow-suc 2 left), omega (arith, few, one))

-- a page has no more entries than there are
pub page_short : {X : Type 0} (pages : List (List X)) (n : ℕ) → length (page_at pages n) ≤ length (all_of pages)
page_short [] n = omega arith
page_short (page ∷ pages) zero = omega (arith, length-append page (all_of pages))
page_short (page ∷ pages) (suc n) = omega (arith, page_short pages n, length-append page (all_of pages))

-- ---- both searches together

twice : (digits : ℕ) → 2 < digits → digits + digits ≤ digits * (digits + 1) / 2
twice digits some = omega (arith, mul-le-mul_left {m = 4} {n = digits + 1} digits (omega (arith, some)))

once : (digits : ℕ) → digits ≤ digits * (digits + 1) / 2
once zero = omega arith
once (suc digits) = omega (arith, mul-le-mul_left {m = 2} {n = suc digits + 1} (suc digits) (omega arith))

many_digits : (digits : ℕ) → HALF < 2 ^ digits → 2 < digits
many_digits zero large = absurd (omega (arith, large))
many_digits (suc zero) large = absurd (omega (arith, large))
many_digits (suc (suc zero)) large = absurd (omega (arith, large))
many_digits (suc (suc (suc digits))) large = omega arith

-- two pages have more entries than half of one
more_than_half : {X : Type 0} (here next : List X) (pages : List (List X)) (digits : ℕ) → AreFilled (here ∷ next ∷ pages) → length (all_of (here ∷ next ∷ pages)) < 2 ^ digits → HALF < 2 ^ digits
more_than_half {X} here [] pages digits filled small = absurd (none pages filled.1)
  where
    none : (pages : List (List X)) → AreFilled ([] ∷ pages) → ⊥
    none [] filled = omega (arith, filled)
    none (page ∷ pages) filled = omega (arith, filled.0)
more_than_half here (e ∷ next) pages digits filled small = omega (arith, filled.0, small, length-append here ((e ∷ next) ++ all_of pages))

pub in_all : {X : Type 0} (pages : List (List X)) (page : ℕ) → AreFilled pages → 0 < length pages → (start middle end : ℕ) →
    ((digits : ℕ) → length pages ≤ 2 ^ digits → middle ≤ start + digits) → ((digits : ℕ) → length (page_at pages page) < 2 ^ digits → end ≤ middle + digits) →
    (digits : ℕ) → length (all_of pages) < 2 ^ digits → end ≤ start + digits * (digits + 1) / 2
in_all [] page filled some start middle end first second digits small = absurd (omega (arith, some))
in_all (here ∷ []) page filled some start middle end first second digits small =
    omega (arith, first 0 (omega arith), second digits (omega (arith, page_short (here ∷ []) page, small)), once digits)
in_all (here ∷ next ∷ pages) page filled some start middle end first second digits small =
    let enough = filled_count (here ∷ next ∷ pages) filled in
    let large : 2 < digits = many_digits digits (more_than_half here next pages digits filled small) in
    omega (arith, first digits (omega (arith, enough, small)), second digits (omega (arith, page_short (here ∷ next ∷ pages) page, small)), twice digits large)
