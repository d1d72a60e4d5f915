-- A part after its length, as bytes below 256 spell it.
use Rattle.std.proofs.Common.{◌≡◌, ◌≤◌, ◌<◌, ◌+◌, ◌^◌, ℕ, zero, suc, List, [], ◌∷◌, ◌++◌, length, take, drop, get_or, refl, sym, ap, ◌∙◌, arith}
use Rattle.std.proofs.lemmas.List.{length-take-le, length-drop, take-append-drop, drop-drop}
use Rattle.std.proofs.lemmas.Nat.{le_bytes_4}
use Rattle.byteorder.specs.Endian.{little_bytes, little_number}
use Rattle.sides.specs.Side.{counted}
use Rattle.sides.specs.Reading.{IsCountedAt}

-- four bytes are all below 256
four_bytes : (a b c d : ℕ) → a < 256 → b < 256 → c < 256 → d < 256 → (k : ℕ) → get_or (a ∷ b ∷ c ∷ d ∷ []) k 0 < 256
four_bytes a b c d la lb lc ld zero = la
four_bytes a b c d la lb lc ld (suc zero) = lb
four_bytes a b c d la lb lc ld (suc (suc zero)) = lc
four_bytes a b c d la lb lc ld (suc (suc (suc zero))) = ld
four_bytes a b c d la lb lc ld (suc (suc (suc (suc k)))) = omega arith

-- bytes begin with the part whose length they spell
counted_in_front : (bytes : List ℕ) (count : ℕ) → ((k : ℕ) → get_or bytes k 0 < 256) → 4 + count ≤ length bytes → count ≡ little_number 4 bytes
    → bytes ≡ counted (take count (drop 4 bytes)) ++ drop count (drop 4 bytes)
counted_in_front [] count low fits is = absurd (omega arith)
counted_in_front (a ∷ []) count low fits is = absurd (omega arith)
counted_in_front (a ∷ b ∷ []) count low fits is = absurd (omega arith)
counted_in_front (a ∷ b ∷ c ∷ []) count low fits is = absurd (omega arith)
counted_in_front (a ∷ b ∷ c ∷ d ∷ rest) count low fits is =
    let long : length (take count rest) ≡ count = length-take-le count rest (omega arith) in
    let spelled : little_bytes 4 count ≡ a ∷ b ∷ c ∷ d ∷ [] = le_bytes_4 (a ∷ b ∷ c ∷ d ∷ []) count refl (four_bytes a b c d (low 0) (low 1) (low 2) (low 3)) (omega arith) in
    ap (λ (bytes : List ℕ). a ∷ b ∷ c ∷ d ∷ bytes) (sym (take-append-drop count rest))
    ∙ ap (λ (front : List ℕ). front ++ (take count rest ++ drop count rest)) (sym spelled)
    ∙ ap (λ (n : ℕ). little_bytes 4 n ++ (take count rest ++ drop count rest)) (sym long)

-- so the part stands there
pub counted_stands : (bytes part : List ℕ) (at count : ℕ) → at ≤ length bytes → ((k : ℕ) → get_or (drop at bytes) k 0 < 256) → 4 + count ≤ length (drop at bytes) → count < 2 ^ 32
    → count ≡ little_number 4 (drop at bytes) → part ≡ take count (drop 4 (drop at bytes)) → IsCountedAt bytes at part
counted_stands bytes part at count there low fits short is same =
    let behind = drop at bytes in
    let long : length part ≡ count = ap length same ∙ length-take-le count (drop 4 behind) (rw length-drop (omega arith)) in
    record {
      short = omega arith;
      within = omega (arith, length-drop at bytes);
      spelled = counted_in_front behind count low fits is ∙ ap (λ (rest : List ℕ). counted (take count (drop 4 behind)) ++ rest) (drop-drop count 4 behind ∙ drop-drop (4 + count) at bytes)
          ∙ ap (λ (front : List ℕ). counted front ++ drop (at + (4 + count)) bytes) (sym same)
          ∙ ap (λ (n : ℕ). counted part ++ drop n bytes) (let n : at + (4 + count) ≡ at + 4 + length part = omega arith in n);
    }
