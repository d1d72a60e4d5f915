-- The bytes of a side that a turnover writes, and how many they are.
use Rattle.std.proofs.Common.{◌≡◌, ◌∙◌, ap, sym, ℕ, ◌+◌, ◌-◌, ◌<◌, ◌^◌, min, List, [], ◌∷◌, ◌++◌, length, arith, length-append, append_assoc}
use Rattle.byteorder.specs.Endian.{little_bytes}
use Rattle.journal.specs.declared.journal.TheConstants.{LIMIT}
use Rattle.sides.specs.Side.{behind_gate, counted}
use Rattle.sides.specs.declared.gate.TheConstants.{FORMAT}
use Rattle.vault.specs.Store.{IsTooLong}

-- the length of a side without records, by those of its parts
pub length-side : (generation : ℕ) (text image journal : List ℕ) → length (1 ∷ behind_gate FORMAT generation text image journal) ≡ 18 + length text + length image + length journal
length-side generation text image journal =
    omega (arith, length-append (text ++ counted image) journal, length-append text (counted image))

-- where its journal ends
pub end_without_records : (generation : ℕ) (text image : List ℕ) → length (behind_gate FORMAT generation text image (0 ∷ [])) ≡ length (1 ∷ behind_gate FORMAT generation text image [])
end_without_records generation text image = omega (arith, length-side generation text image (0 ∷ []), length-side generation text image [])

-- the side lies below the limit, and its journal begins and ends here
pub record Fits (generation : ℕ) (text image : List ℕ) (end : ℕ) : Type 0 where
  pub ends : end ≡ length (1 ∷ behind_gate FORMAT generation text image [])
  pub below : IsTooLong generation text image → ⊥
  pub short : length image < 2 ^ 32

pub fits : (generation : ℕ) (text image : List ℕ) (end long short : ℕ) → (end ≡ 18 + long + short) × (end < LIMIT) → long ≡ length text → short ≡ min (length image) (2 ^ 64 - 1) → Fits generation text image end
fits generation text image end long short sum is_long is_short =
    let whole = length-side generation text image [] in
    record {
      ends = omega (arith, whole, sum.0, sum.1, is_long, is_short);
      below = λ too_long. absurd (omega (arith, whole, sum.0, sum.1, is_long, is_short, too_long));
      short = omega (arith, sum.0, sum.1, is_short);
    }

-- behind its gate it is a head, the text, the number of the image's bytes, the image, and a closed gate
pub side_chained : (generation : ℕ) (text image head count : List ℕ) (short : ℕ) → head ≡ FORMAT ∷ little_bytes 8 generation ++ little_bytes 4 (length text)
    → count ≡ little_bytes 4 short → short ≡ length image → head ++ (text ++ (count ++ (image ++ 0 ∷ []))) ≡ behind_gate FORMAT generation text image (0 ∷ [])
side_chained generation text image head count short is_head is_count is_short =
    ap (λ (l : List ℕ). l ++ (text ++ (count ++ (image ++ 0 ∷ [])))) is_head
    ∙ ap (λ (l : List ℕ). (FORMAT ∷ little_bytes 8 generation ++ little_bytes 4 (length text)) ++ (text ++ (l ++ (image ++ 0 ∷ [])))) (is_count ∙ ap (little_bytes 4) is_short)
    ∙ ap (λ (l : List ℕ). (FORMAT ∷ little_bytes 8 generation ++ little_bytes 4 (length text)) ++ l) (sym (append_assoc text (counted image) (0 ∷ [])))
