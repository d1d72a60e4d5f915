-- How a side is written: a length over four bytes, and the parts one after another.
use Rattle.std.proofs.Common.{◌≡◌, ◌+◌, ◌-◌, ℕ, List, ◌++◌, length, take, drop, sym, ap, ◌∙◌, arith}
use Rattle.std.proofs.lemmas.List.{append_assoc, append-nil, drop-drop, drop_all, length-drop, take_rest}

-- bytes written over others, from a position on
pub written_over : (bytes written : List ℕ) (at width : ℕ) → take at bytes ++ ((written ++ drop width (take (length bytes - at) (drop at bytes))) ++ drop (length bytes - at) (drop at bytes)) ≡ take at bytes ++ written ++ drop (at + width) bytes
written_over bytes written at width =
    ap (λ (back : List ℕ). take at bytes ++ ((written ++ drop width (take (length bytes - at) (drop at bytes))) ++ back)) (drop_all (length bytes - at) (drop at bytes) (rw length-drop (omega arith)))
    ∙ ap (λ (back : List ℕ). take at bytes ++ back) (append-nil (written ++ drop width (take (length bytes - at) (drop at bytes))) ∙ ap (λ (rest : List ℕ). written ++ drop width rest) (take_rest bytes at) ∙ ap (λ (rest : List ℕ). written ++ rest) (drop-drop width at bytes))
    ∙ sym (append_assoc (take at bytes) written (drop (at + width) bytes))

-- five parts in a row
pub in_a_row : (old head text image gate : List ℕ) → (((old ++ head) ++ text) ++ image) ++ gate ≡ old ++ (head ++ text ++ image ++ gate)
in_a_row old head text image gate =
    ap (λ (front : List ℕ). front ++ image ++ gate) (append_assoc old head text) ∙ ap (λ (front : List ℕ). front ++ gate) (append_assoc old (head ++ text) image) ∙ append_assoc old (head ++ text ++ image) gate
