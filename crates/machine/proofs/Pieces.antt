-- Bytes that are given piece by piece.
use Rattle.std.proofs.Common.{◌≡◌, ◌∙◌, ap, sym, ℕ, ◌+◌, ◌≤◌, List, ◌++◌, length, take, drop, append_assoc}
use Rattle.std.proofs.lemmas.List.{take-append-drop, drop-drop, length-take-le, take-append-le}
use Rattle.std.proofs.Math.Seq.{take-append-add}

-- some of the bytes were copied, and the others are left
pub some_given : (was bytes rest out piece : List ℕ) (begin count : ℕ) → was ≡ drop begin bytes ++ rest → piece ≡ drop begin bytes → take count out ≡ take count piece → was ≡ take count out ++ (drop (begin + count) bytes ++ rest)
some_given was bytes rest out piece begin count is same copied =
    is ∙ ap (λ xs. xs ++ rest) (sym (take-append-drop count (drop begin bytes))) ∙ append_assoc (take count (drop begin bytes)) (drop count (drop begin bytes)) rest
    ∙ ap (λ xs. take count (drop begin bytes) ++ (xs ++ rest)) (drop-drop count begin bytes)
    ∙ ap (λ xs. xs ++ (drop (begin + count) bytes ++ rest)) (sym (copied ∙ ap (take count) same))

-- one piece more, after those that were given
pub one_more : (was now left out piece rest : List ℕ) (n m : ℕ) → n ≤ length out → m ≤ length piece → was ≡ take n out ++ now → now ≡ take m piece ++ left → was ≡ take (n + m) (take n out ++ (piece ++ rest)) ++ left
one_more was now left out piece rest n m within_out within_piece is more =
    let count = length-take-le n out within_out in
    let front : take (n + m) (take n out ++ (piece ++ rest)) ≡ take n out ++ take m piece =
    ap (λ k. take (k + m) (take n out ++ (piece ++ rest))) (sym count) ∙ take-append-add (take n out) (piece ++ rest) m ∙ ap (λ xs. take n out ++ xs) (take-append-le m piece rest within_piece) in
    is ∙ ap (λ xs. take n out ++ xs) more ∙ sym (append_assoc (take n out) (take m piece) left) ∙ ap (λ xs. xs ++ left) (sym front)
