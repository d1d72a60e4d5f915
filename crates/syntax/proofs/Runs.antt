-- The longest prefix of a text that passes a test, and a text of ASCII.
use Rattle.std.proofs.Common.{◌≡◌, ℕ, ◌+◌, ◌<◌, ◌≤◌, zero, suc, Bool, true, false, cond, List, [], ◌∷◌, ◌++◌, length, take, drop, refl, sym, subst, arith, lit<}
use Rattle.std.specs.List.{AllByRecursion, prefix_len, take_while}
use Rattle.std.specs.Str.{IsAscii, IsCharBoundary}
use Rattle.std.proofs.lemmas.Str.{IsCharBoundary-from_ascii}
use Rattle.std.proofs.lemmas.List.Sums.{take_while-cons, prefix_len-le-length}
use Rattle.syntax.specs.Tokens.{BeginsWithout}

abbrev pub Passes : (ℕ → Bool) → List ℕ → Type 0
Passes is bytes = AllByRecursion (λ byte. is byte ≡ true) bytes

passes_by : (is : ℕ → Bool) (first : ℕ) (rest : List ℕ) (b : Bool) → is first ≡ b → Passes is (take_while is rest) → Passes is (cond b (first ∷ take_while is rest) [])
passes_by is first rest b e h = grind arith

pub passes : (is : ℕ → Bool) (bytes : List ℕ) → Passes is (take (prefix_len is bytes) bytes)
passes is [] = tt
passes is (first ∷ rest) = subst (Passes is) (sym (take_while-cons is first rest)) (passes_by is first rest (is first) refl (passes is rest))

stops_by : (is : ℕ → Bool) (first : ℕ) (rest : List ℕ) (b : Bool) → is first ≡ b → BeginsWithout is (drop (prefix_len is rest) rest)
    → BeginsWithout is (drop (cond b (1 + prefix_len is rest) 0) (first ∷ rest))
stops_by is first rest b e h = grind arith

pub stops : (is : ℕ → Bool) (bytes : List ℕ) → BeginsWithout is (drop (prefix_len is bytes) bytes)
stops is [] = tt
stops is (first ∷ rest) = stops_by is first rest (is first) refl (stops is rest)

-- the text determines the prefix that passes, if the rest does not go on
pub split_once : (is : ℕ → Bool) (a b x y : List ℕ) → Passes is a → Passes is b → BeginsWithout is x → BeginsWithout is y → a ++ x ≡ b ++ y → (a ≡ b) × (x ≡ y)
split_once is [] [] x y pa pb sx sy e = (refl, e)
split_once is [] (d ∷ b) x y pa pb sx sy e = let h : is d ≡ false = subst (BeginsWithout is) e sx in let k : is d ≡ true = pb.0 in absurd (cc)
split_once is (c ∷ a) [] x y pa pb sx sy e = let h : is c ≡ false = subst (BeginsWithout is) (sym e) sy in let k : is c ≡ true = pa.0 in absurd (cc)
split_once is (c ∷ a) (d ∷ b) x y pa pb sx sy e =
    let heads : c ≡ d = cc in
    let tails : a ++ x ≡ b ++ y = cc in
    let rest = split_once is a b x y pa.1 pb.1 sx sy tails in
    let fronts : a ≡ b = rest.0 in
    (cc, rest.1)

-- ---- ASCII

pub ascii : (bytes : List ℕ) → AllByRecursion (λ byte. byte < 128) bytes → IsAscii bytes
ascii [] h i = lit< tt
ascii (first ∷ rest) h zero = h.0
ascii (first ∷ rest) h (suc i) = ascii rest h.1 i

-- such a text may be cut anywhere
pub boundary : (text : List ℕ) (n : ℕ) → AllByRecursion (λ byte. byte < 128) text → n ≤ length text → IsCharBoundary text n
boundary text n h within = IsCharBoundary-from_ascii text n (ascii text h) within

pub run_within : (is : ℕ → Bool) (text : List ℕ) (n : ℕ) → n ≡ prefix_len is text → n ≤ length text
run_within is text n e = omega (arith, prefix_len-le-length is text)
