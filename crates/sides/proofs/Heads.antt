-- The head of a side, as bytes below 256 spell it.
use Rattle.std.proofs.Common.{◌≡◌, ◌≤◌, ◌<◌, ◌^◌, ℕ, zero, suc, List, [], ◌∷◌, ◌++◌, length, drop, get_or, refl, sym, ap, ◌∙◌, arith}
use Rattle.std.proofs.lemmas.Nat.{le_bytes_8}
use Rattle.byteorder.specs.Endian.{little_bytes, little_number}
use Rattle.sides.specs.Side.{IsOpen, HasGeneration}

-- eight bytes are all below 256
eight_bytes : (a b c d e f g h : ℕ) → a < 256 → b < 256 → c < 256 → d < 256 → e < 256 → f < 256 → g < 256 → h < 256 → (k : ℕ) → get_or (a ∷ b ∷ c ∷ d ∷ e ∷ f ∷ g ∷ h ∷ []) k 0 < 256
eight_bytes a b c d e f g h la lb lc ld le lf lg lh zero = la
eight_bytes a b c d e f g h la lb lc ld le lf lg lh (suc zero) = lb
eight_bytes a b c d e f g h la lb lc ld le lf lg lh (suc (suc zero)) = lc
eight_bytes a b c d e f g h la lb lc ld le lf lg lh (suc (suc (suc zero))) = ld
eight_bytes a b c d e f g h la lb lc ld le lf lg lh (suc (suc (suc (suc zero)))) = le
eight_bytes a b c d e f g h la lb lc ld le lf lg lh (suc (suc (suc (suc (suc zero))))) = lf
eight_bytes a b c d e f g h la lb lc ld le lf lg lh (suc (suc (suc (suc (suc (suc zero)))))) = lg
eight_bytes a b c d e f g h la lb lc ld le lf lg lh (suc (suc (suc (suc (suc (suc (suc zero))))))) = lh
eight_bytes a b c d e f g h la lb lc ld le lf lg lh (suc (suc (suc (suc (suc (suc (suc (suc k)))))))) = omega arith

-- an open side of ten bytes or more has the generation that it spells
pub head_told : (bytes : List ℕ) (generation : ℕ) → ((k : ℕ) → get_or bytes k 0 < 256) → 10 ≤ length bytes → get_or bytes 0 0 ≡ 1 → generation < 2 ^ 64
    → generation ≡ little_number 8 (drop 2 bytes) → HasGeneration bytes generation
head_told [] n low long begins small is = absurd (omega arith)
head_told (gate ∷ []) n low long begins small is = absurd (omega arith)
head_told (gate ∷ format ∷ []) n low long begins small is = absurd (omega arith)
head_told (gate ∷ format ∷ a ∷ []) n low long begins small is = absurd (omega arith)
head_told (gate ∷ format ∷ a ∷ b ∷ []) n low long begins small is = absurd (omega arith)
head_told (gate ∷ format ∷ a ∷ b ∷ c ∷ []) n low long begins small is = absurd (omega arith)
head_told (gate ∷ format ∷ a ∷ b ∷ c ∷ d ∷ []) n low long begins small is = absurd (omega arith)
head_told (gate ∷ format ∷ a ∷ b ∷ c ∷ d ∷ e ∷ []) n low long begins small is = absurd (omega arith)
head_told (gate ∷ format ∷ a ∷ b ∷ c ∷ d ∷ e ∷ f ∷ []) n low long begins small is = absurd (omega arith)
head_told (gate ∷ format ∷ a ∷ b ∷ c ∷ d ∷ e ∷ f ∷ g ∷ []) n low long begins small is = absurd (omega arith)
head_told (gate ∷ format ∷ a ∷ b ∷ c ∷ d ∷ e ∷ f ∷ g ∷ h ∷ rest) n low long begins small is =
    let spelled : little_bytes 8 n ≡ a ∷ b ∷ c ∷ d ∷ e ∷ f ∷ g ∷ h ∷ [] =
    le_bytes_8 (a ∷ b ∷ c ∷ d ∷ e ∷ f ∷ g ∷ h ∷ []) n refl (eight_bytes a b c d e f g h (low 2) (low 3) (low 4) (low 5) (low 6) (low 7) (low 8) (low 9)) (omega arith) in
    (small, (format, rest, ap (λ (x : ℕ). x ∷ format ∷ a ∷ b ∷ c ∷ d ∷ e ∷ f ∷ g ∷ h ∷ rest) begins ∙ ap (λ (front : List ℕ). 1 ∷ format ∷ front ++ rest) (sym spelled)))

-- a side with a generation is open, and has ten bytes or more
pub open_head : (bytes : List ℕ) (generation : ℕ) → HasGeneration bytes generation → IsOpen bytes × (10 ≤ length bytes)
open_head bytes generation has = ((has.1.0 ∷ little_bytes 8 generation ++ has.1.1, has.1.2), rw has.1.2 (omega arith))
