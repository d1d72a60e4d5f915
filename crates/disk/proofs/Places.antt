-- What is at a place of a list that is made of other lists.
use Rattle.std.proofs.Common.{◌≡◌, ℕ, zero, suc, ◌+◌, ◌-◌, ◌≤◌, ◌<◌, max, List, [], ◌∷◌, ◌++◌, length, take, drop, refl, ap, ◌∙◌, arith, length-append, length-take, length-drop}
use Rattle.std.specs.Prelude.{None, slice_get}
use Rattle.disk.specs.File.{overwritten}

pub slice_get-append_left : (xs ys : List ℕ) (i : ℕ) → i < length xs → slice_get (xs ++ ys) i ≡ slice_get xs i
slice_get-append_left [] ys i lt = absurd (omega arith)
slice_get-append_left (x ∷ xs) ys zero lt = refl
slice_get-append_left (x ∷ xs) ys (suc i) lt = slice_get-append_left xs ys i (omega arith)

pub slice_get-append_right : (xs ys : List ℕ) (i : ℕ) → length xs ≤ i → slice_get (xs ++ ys) i ≡ slice_get ys (i - length xs)
slice_get-append_right [] ys i le = ap (slice_get ys) (omega arith)
slice_get-append_right (x ∷ xs) ys zero le = absurd (omega arith)
slice_get-append_right (x ∷ xs) ys (suc i) le = slice_get-append_right xs ys i (omega arith) ∙ ap (slice_get ys) (omega arith)

pub slice_get-take : (xs : List ℕ) (n i : ℕ) → i < n → slice_get (take n xs) i ≡ slice_get xs i
slice_get-take xs zero i lt = absurd (omega arith)
slice_get-take [] (suc n) i lt = refl
slice_get-take (x ∷ xs) (suc n) zero lt = refl
slice_get-take (x ∷ xs) (suc n) (suc i) lt = slice_get-take xs n i (omega arith)

pub slice_get-take_past : (xs : List ℕ) (n i : ℕ) → n ≤ i → slice_get (take n xs) i ≡ None
slice_get-take_past xs zero i le = refl
slice_get-take_past [] (suc n) i le = refl
slice_get-take_past (x ∷ xs) (suc n) zero le = absurd (omega arith)
slice_get-take_past (x ∷ xs) (suc n) (suc i) le = slice_get-take_past xs n i (omega arith)

pub slice_get-drop : (xs : List ℕ) (n i : ℕ) → n ≤ i → slice_get (drop n xs) (i - n) ≡ slice_get xs i
slice_get-drop xs zero i le = ap (slice_get xs) (omega arith)
slice_get-drop [] (suc n) i le = refl
slice_get-drop (x ∷ xs) (suc n) zero le = absurd (omega arith)
slice_get-drop (x ∷ xs) (suc n) (suc i) le = ap (slice_get (drop n xs)) (omega arith) ∙ slice_get-drop xs n i (omega arith)

-- the bytes in front of a write, and those behind it
pub overwritten-before : (old bytes : List ℕ) (from at : ℕ) → from ≤ length old → at < from → slice_get (overwritten old from bytes) at ≡ slice_get old at
overwritten-before old bytes from at le lt =
    slice_get-append_left (take from old ++ bytes) (drop (from + length bytes) old) at (omega (arith, length-append (take from old) bytes, length-take from old))
    ∙ slice_get-append_left (take from old) bytes at (omega (arith, length-take from old))
    ∙ slice_get-take old from at lt

pub overwritten-behind : (old bytes : List ℕ) (from at : ℕ) → from ≤ length old → from + length bytes ≤ at → slice_get (overwritten old from bytes) at ≡ slice_get old at
overwritten-behind old bytes from at le ge =
    let long : length (take from old ++ bytes) ≡ from + length bytes = omega (arith, length-append (take from old) bytes, length-take from old) in
    slice_get-append_right (take from old ++ bytes) (drop (from + length bytes) old) at (omega (arith, long))
    ∙ ap (λ (n : ℕ). slice_get (drop (from + length bytes) old) (at - n)) long
    ∙ slice_get-drop old (from + length bytes) at ge

pub length-overwritten : (old bytes : List ℕ) (from : ℕ) → from ≤ length old → length (overwritten old from bytes) ≡ max (length old) (from + length bytes)
length-overwritten old bytes from le =
    omega (arith, length-append (take from old ++ bytes) (drop (from + length bytes) old), length-append (take from old) bytes, length-take from old, length-drop (from + length bytes) old)
