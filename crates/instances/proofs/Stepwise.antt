-- A list of which the first elements were changed one after another.
use Rattle.std.proofs.Common.{◌≡◌, ap, refl, ℕ, zero, suc, ◌<◌, List, [], ◌∷◌, map, set, length, get_or, slice_get, option_map, arith}

-- the first n elements are changed, and the others are as they were
abbrev pub changed : {X : Type 0} → (X → X) → ℕ → List X → List X
changed f zero xs = xs
changed f (suc n) [] = []
changed f (suc n) (x ∷ xs) = f x ∷ changed f n xs

-- the next element is still as it was
pub next_is : {X : Type 0} (f : X → X) (n : ℕ) (xs : List X) (d : X) → get_or (changed f n xs) n d ≡ get_or xs n d
next_is f zero xs d = refl
next_is f (suc n) [] d = refl
next_is f (suc n) (x ∷ xs) d = next_is f n xs d

-- after it is changed, one more element is changed
pub one_more : {X : Type 0} (f : X → X) (n : ℕ) (xs : List X) (x : X) → n < length xs → x ≡ get_or xs n x → set (changed f n xs) n (f x) ≡ changed f (suc n) xs
one_more f n [] x within is = absurd (omega (arith, within))
one_more f zero (first ∷ xs) x within is = λ i. f (is i) ∷ xs
one_more f (suc n) (first ∷ xs) x within is = ap (λ rest. f first ∷ rest) (one_more f n xs x (omega (arith, within)) is)

-- at the end all elements are changed
pub all_changed : {X : Type 0} (f : X → X) (xs : List X) → changed f (length xs) xs ≡ map f xs
all_changed f [] = refl
all_changed f (x ∷ xs) = ap (λ rest. f x ∷ rest) (all_changed f xs)

pub mapped_get : {X Y : Type 0} (f : X → Y) (xs : List X) (n : ℕ) → slice_get (map f xs) n ≡ option_map f (slice_get xs n)
mapped_get f [] n = refl
mapped_get f (x ∷ xs) zero = refl
mapped_get f (x ∷ xs) (suc n) = mapped_get f xs n
