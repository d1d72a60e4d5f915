-- A piece that two sources gave, one after the other.
use Rattle.std.proofs.Common.{◌≡◌, ◌∙◌, ap, sym, refl, ℕ, ◌+◌, ◌≤◌, List, [], ◌∷◌, ◌++◌, length, take, append_assoc, append-nil}
use Rattle.std.proofs.lemmas.List.{length-take-le, take-append-le}
use Rattle.std.proofs.Math.Seq.{take-append-add}

pub none_left : {X : Type 0} (xs : List X) → length xs ≡ 0 → xs ≡ []
none_left [] is = refl
none_left (x ∷ xs) is = absurd (cc)

-- the first has nothing left
pub chained : (a b left_a left_b one two rest : List ℕ) (n m : ℕ) → n ≤ length one → m ≤ length two → a ≡ take n one ++ left_a → left_a ≡ [] → b ≡ take m two ++ left_b →
    a ++ b ≡ take (n + m) (take n one ++ (two ++ rest)) ++ (left_a ++ left_b)
chained a b left_a left_b one two rest n m within_one within_two is_a none is_b =
    let count = length-take-le n one within_one in
    let front : take (n + m) (take n one ++ (two ++ rest)) ≡ take n one ++ take m two =
    ap (λ k. take (k + m) (take n one ++ (two ++ rest))) (sym count) ∙ take-append-add (take n one) (two ++ rest) m ∙ ap (λ xs. take n one ++ xs) (take-append-le m two rest within_two) in
    ap (λ xs. xs ++ b) is_a ∙ ap (λ xs. (take n one ++ xs) ++ b) none ∙ ap (λ xs. xs ++ b) (append-nil (take n one)) ∙ ap (λ xs. take n one ++ xs) is_b
    ∙ sym (append_assoc (take n one) (take m two) left_b) ∙ ap (λ xs. xs ++ left_b) (sym front) ∙ ap (λ xs. take (n + m) (take n one ++ (two ++ rest)) ++ (xs ++ left_b)) (sym none)
