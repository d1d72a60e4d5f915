-- Bytes that are written from a place on.
use Rattle.std.proofs.Common.{◌≡◌, ◌+◌, ◌*◌, ◌<◌, ◌≤◌, ◌∙◌, ap, sym, subst, ℕ, ℤ, List, [], ◌∷◌, ◌++◌, length, take, get_or, append_assoc, length-append, arith}
use Rattle.std.specs.List.{flat_map}
use Rattle.std.proofs.lemmas.List.{take_more, flat_map_more, length-take-le}
use Rattle.codec.specs.Filling.{Fills}
use Rattle.codec.specs.Spelling.{value_bytes}
use Rattle.codec.proofs.Roomy.{components_long}

-- some, and then others after them
pub fills_both : (one two : List ℕ) (place middle end : ℕ) (old mid new : List ℕ) → Fills one place old mid middle → Fills two middle mid new end → Fills (one ++ two) place old new end
fills_both one two place middle end old mid new first second = record {
  end_is = omega (arith, first.end_is, second.end_is, length-append one two);
  filled = second.filled ∙ ap (λ (xs : List ℕ). xs ++ two) first.filled ∙ append_assoc (take place old) one two;
  length_stays = second.length_stays ∙ first.length_stays;
}

-- one element more
pub fills_more : {X : Type 0} (spelling : X → List ℕ) (xs : List X) (i : ℕ) (x : X) (place middle end : ℕ) (old mid new : List ℕ) → i < length xs → x ≡ get_or xs i x →
    Fills (flat_map spelling (take i xs)) place old mid middle → Fills (spelling x) middle mid new end → Fills (flat_map spelling (take (i + 1) xs)) place old new end
fills_more spelling xs i x place middle end old mid new within is first second =
    let grown : take (i + 1) xs ≡ take i xs ++ x ∷ [] = take_more xs i x within ∙ ap (λ y. take i xs ++ y ∷ []) (sym is) in
    subst (λ bytes. Fills bytes place old new end) (flat_map_more spelling [] (take i xs) x ∙ ap (flat_map spelling) (sym grown)) (fills_both (flat_map spelling (take i xs)) (spelling x) place middle end old mid new first second)

-- the first components have eight bytes each
pub first_long : (key : List ℤ) (i : ℕ) → i ≤ length key → length (flat_map value_bytes (take i key)) ≡ 8 * i
first_long key i within = components_long (take i key) ∙ ap (λ n. 8 * n) (length-take-le i key within)
