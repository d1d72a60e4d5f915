-- What a file is while its side is written anew.
use Rattle.std.specs.Prelude.{◌≡◌, ◌≢◌, ◌⊎◌, ℕ, false, List, [], ◌∷◌, Some, slice_get, Result, OnOk, Bool, MatchBool}
use Rattle.disk.specs.declared.storage.Disk.{Ghosts}
use Rattle.disk.specs.declared.side.Side.{Side}
use Rattle.disk.specs.File.{Durable, File, at_rest}
use Rattle.disk.specs.Time.{OtherStays, OtherMayBe}
use Rattle.disk.specs.Storage.{Leaves}
use Rattle.sides.specs.Side.{IsOpen}

-- the bytes begin with a gate that is not open
pub record IsShut (bytes : List ℕ) : Type 0 where
  pub gate : ℕ
  pub closed : gate ≢ 1
  pub rest : List ℕ
  pub spelled : bytes ≡ gate ∷ rest

-- they are none, or begin with an open gate
abbrev pub IsUnshut : List ℕ → Type 0
IsUnshut bytes = (bytes ≡ []) ⊎ IsOpen bytes

-- the answer says whether the bytes begin with a gate that is not open
abbrev pub TellsShut : List ℕ → Bool → Type 0
TellsShut bytes shut = MatchBool shut (IsShut bytes) (IsUnshut bytes)

-- all of the file is on the disk
abbrev pub Rests : File → Type 0
Rests file = file ≡ at_rest file.content

-- all of it is on the disk, and it begins with a gate that is not open
abbrev pub RestsShut : File → Type 0
RestsShut file = Rests file × IsShut file.content

-- a crash leaves bytes that begin with this gate: it is on the disk, and no write or cut has touched it since
pub record KeepsGate (gate : ℕ) (durable : Durable) : Type 0 where
  pub synced : slice_get durable.synced 0 ≡ Some gate
  pub untouched : durable.touched 0 ≡ false

-- reads give these bytes after a gate that is not open, and a crash leaves that gate; of the bytes nothing is said
pub record HasAfterGate (file : File) (bytes : List ℕ) : Type 0 where
  pub gate : ℕ
  pub closed : gate ≢ 1
  pub content : file.content ≡ gate ∷ bytes
  pub keeps : KeepsGate gate file.durable

-- after a gate that is not open it has these bytes, and all of it is on the disk
abbrev pub HasBehindGate : File → List ℕ → Type 0
HasBehindGate file bytes = (gate : ℕ) × (gate ≢ 1) × (file ≡ at_rest (gate ∷ bytes))

-- a crash leaves the old bytes, or bytes that begin with a gate that is not open
abbrev pub MayShut : List ℕ → List ℕ → Type 0
MayShut old bytes = (bytes ≡ old) ⊎ IsShut bytes

-- or it leaves the new bytes
abbrev pub MayTurn : List ℕ → List ℕ → List ℕ → Type 0
MayTurn old new bytes = MayShut old bytes ⊎ (bytes ≡ new)

-- at each moment a crash leaves of this file bytes that begin with a gate that is not open, and of the other what it might have left before
abbrev pub LeavesShut : {D : Type 0} → Ghosts D → Side → D → D → Type 0
LeavesShut storage side old new = Leaves storage old new (λ contents. IsShut (contents side) × OtherMayBe side (storage.files old) contents)

-- What writing a file anew leaves, on an honest disk: these bytes, all of them on the disk; the other file stays. If the file has a first byte, a crash at any moment
-- leaves the old bytes, the new ones, or bytes that begin with a gate that is not open.
pub record WritesAnew {D T E : Type 0} (storage : Ghosts D) (side : Side) (bytes : List ℕ) (old new : D) (result : Result T E) : Type 0 where
  pub written : OnOk result (storage.files new side ≡ at_rest bytes)
  pub other : OtherStays side (storage.files old) (storage.files new)
  pub any_moment : (storage.files old side).content ≢ []
      → Leaves storage old new (λ contents. MayTurn (storage.files old side).content bytes (contents side) × OtherMayBe side (storage.files old) contents)
