-- The two files of a disk.
use Rattle.std.specs.Prelude.{◌≡◌, ◌≢◌, ◌⊎◌, Bool, true, false, if◌then◌else◌, refl}
use Rattle.std.proofs.Common.{inl, inr}
use Rattle.disk.specs.declared.side.Side.{Side}
use Rattle.disk.specs.declared.side.Side.TheVariants.{A, B}

-- whether these are the same side
abbrev pub is_side : Side → Side → Bool
is_side A A = true
is_side A B = false
is_side B A = false
is_side B B = true

-- the value of a side, from the value of A and the value of B
abbrev pub pick : {X : Type 0} → X → X → Side → X
pick a b A = a
pick a b B = b

-- what one side has is changed so, and the other has what it had
abbrev pub ChangesSide : {X : Type 0} → Side → (X → X) → (Side → X) → (Side → X) → Type 0
ChangesSide side change old new = (each : Side) → new each ≡ (if is_side side each then change (old each) else old each)

-- one side or the other
pub which : (side each : Side) → (side ≡ each) ⊎ (each ≢ side)
which A A = inl refl
which A B = inr (λ e. cc)
which B A = inr (λ e. cc)
which B B = inl refl
