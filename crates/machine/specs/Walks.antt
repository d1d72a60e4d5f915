-- Walks that spell what they go along, element by element.
use Rattle.std.specs.Prelude.{◌≡◌, ◌≢◌, ◌<◌, ◌^◌, ◌+◌, ℕ, suc, List, [], ◌++◌, length}
use Rattle.byteorder.specs.Endian.{little_bytes}

-- Such a walk has the bytes of the elements that are left, the number of these, and whether each of them has a spelling. It gave the
-- bytes of its next element; none, if no element was left.
pub record SpellsNext {S : Type 0} (rest : S → List ℕ) (old new : S) (bytes : List ℕ) : Type 0 where
  pub gives : rest old ≡ bytes ++ rest new
  pub none : bytes ≡ [] → rest old ≡ []

-- it went past its next element, which has so many bytes; 0, if no element was left
pub record MeasuresNext {S : Type 0} (rest : S → List ℕ) (count : S → ℕ) (InRange : S → Type 0) (old new : S) (size : ℕ) : Type 0 where
  pub sized : length (rest old) ≡ size + length (rest new)
  pub none : size ≡ 0 → (rest old ≡ []) × (count old ≡ 0) × InRange old
  pub some : size ≢ 0 → (count old ≡ suc (count new)) × (InRange new → InRange old)

-- what was found out along such a walk: how many elements there are, which all have a spelling, and how many bytes
pub record IsMeasureOf {S : Type 0} (rest : S → List ℕ) (count : S → ℕ) (InRange : S → Type 0) (walk : S) (number size : ℕ) : Type 0 where
  pub counted : number ≡ count walk
  pub few : number < 2 ^ 32
  pub sized : size ≡ length (rest walk)
  pub in_range : InRange walk

-- the bytes before the elements of such a walk: some others, and the number of the elements; and how many bytes there are with the elements
pub record IsFrontOf {S : Type 0} (rest : S → List ℕ) (count : S → ℕ) (InRange : S → Type 0) (walk : S) (before bytes : List ℕ) (size : ℕ) : Type 0 where
  pub spelled : bytes ≡ before ++ little_bytes 4 (count walk)
  pub sized : size ≡ length (bytes ++ rest walk)
  pub few : count walk < 2 ^ 32
  pub in_range : InRange walk
