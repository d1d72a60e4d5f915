-- Whole records among some bytes.
use Rattle.std.specs.Prelude.{◌≡◌, ◌↔◌, ◌≤◌, ◌<◌, ◌+◌, ℕ, List, [], ◌∷◌, ◌++◌, length, drop, All, slice_range}
use Rattle.journal.specs.declared.payloads.Place.{Place}
use Rattle.journal.specs.Records.{record_of, records, IsShort, StandsFor}

-- bytes begin with the record of this payload, followed by the gate of a next one
pub record BeginsWith (payload bytes : List ℕ) : Type 0 where
  pub short : IsShort payload
  pub gate : ℕ
  pub rest : List ℕ
  pub spelled : bytes ≡ record_of payload ++ gate ∷ rest

-- bytes do not begin with the record of any payload
abbrev pub BeginsWithNone : List ℕ → Type 0
BeginsWithNone bytes = (payload : List ℕ) → BeginsWith payload bytes → ⊥

-- the record at a gate has its payload at this place, and the gate of a next one follows it
pub record IsRecordAt (bytes : List ℕ) (gate : ℕ) (place : Place) : Type 0 where
  pub ordered : place.start ≤ place.end
  pub within : place.end < length bytes
  pub short : IsShort (slice_range bytes place.start place.end)
  pub leads : place.end ≡ gate + length (record_of (slice_range bytes place.start place.end))
  pub spelled : drop gate bytes ≡ record_of (slice_range bytes place.start place.end) ++ drop place.end bytes

-- the first `end` bytes are the records of these payloads
pub record LeadsTo (bytes : List ℕ) (end : ℕ) (payloads : List (List ℕ)) : Type 0 where
  pub short : All IsShort payloads
  pub within : end ≤ length bytes
  pub leads : end ≡ length (records payloads)
  pub spelled : bytes ≡ records payloads ++ drop end bytes

-- ---- what the first record says about the payloads that bytes stand for

-- bytes that begin with a record stand for its payload and then others exactly if the payload's length fits in four bytes and
-- what follows the record stands for the others
abbrev pub FirstLeadsOthers : Type 0
FirstLeadsOthers = (payload : List ℕ) (payloads : List (List ℕ)) (rest : List ℕ) → StandsFor (record_of payload ++ rest) (payload ∷ payloads) ↔ (IsShort payload × StandsFor rest payloads)

-- bytes that stand for payloads begin with the record of the first of them
abbrev pub BeginWithFirst : Type 0
BeginWithFirst = (bytes payload : List ℕ) (payloads : List (List ℕ)) → StandsFor bytes (payload ∷ payloads) → BeginsWith payload bytes

-- bytes begin with the record of at most one payload
abbrev pub OneInFront : Type 0
OneInFront = (bytes one two : List ℕ) → BeginsWith one bytes → BeginsWith two bytes → one ≡ two

-- a closed gate begins no record
abbrev pub ClosedBeginsNone : Type 0
ClosedBeginsNone = (bytes : List ℕ) → StandsFor bytes [] → BeginsWithNone bytes

-- bytes that stand for at least one payload do not begin with a closed gate
abbrev pub NoneIsNotSome : Type 0
NoneIsNotSome = (bytes payload : List ℕ) (payloads : List (List ℕ)) → StandsFor bytes (payload ∷ payloads) → StandsFor bytes [] → ⊥
