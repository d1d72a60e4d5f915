-- The laws of spellings.
use Rattle.std.specs.Prelude.{◌≡◌, ◌<◌, ◌^◌, ℕ, List, [], ◌++◌, Result, Ok}
use Rattle.std.specs.List.{AllByRecursion}
use Rattle.codec.specs.declared.error.CodecError.{CodecError}

abbrev pub AreBytes : List ℕ → Type 0
AreBytes bytes = AllByRecursion (λ byte. byte < 2 ^ 8) bytes

-- a spelling is read as the value that it spells, and no other bytes are read as that value
pub record ReadsBack {V : Type 0} (Is : V → Type 0) (spelling : V → List ℕ) (decoded : List ℕ → Result V CodecError) : Type 0 where
  pub spelled : (value : V) → Is value → decoded (spelling value) ≡ Ok value
  pub only : (bytes : List ℕ) (value : V) → AreBytes bytes → decoded bytes ≡ Ok value → Is value × (bytes ≡ spelling value)

-- bytes spell at most one value
abbrev pub SpellsOne : {V : Type 0} → (List ℕ → V → Type 0) → Type 0
SpellsOne {V} Spells = (bytes : List ℕ) (one two : V) → Spells bytes one → Spells bytes two → one ≡ two

-- the bytes spell no value
abbrev pub SpellsNone : {V : Type 0} → (List ℕ → V → Type 0) → List ℕ → Type 0
SpellsNone {V} Spells bytes = (value : V) → Spells bytes value → ⊥

-- no spelling is a proper prefix of another
abbrev pub BeginsNoOther : {V : Type 0} → (V → Type 0) → (V → List ℕ) → Type 0
BeginsNoOther {V} Is spelling = (one two : V) (rest : List ℕ) → Is one → Is two → spelling one ++ rest ≡ spelling two → rest ≡ []
