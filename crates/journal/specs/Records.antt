-- What the bytes of a journal stand for.
use Rattle.std.specs.Prelude.{◌≡◌, ◌≢◌, ◌<◌, ◌^◌, ℕ, List, ◌∷◌, ◌++◌, length, All}
use Rattle.std.specs.List.{flat_map}
use Rattle.byteorder.specs.Endian.{little_bytes}

-- a record without its gate: the length of the payload as four little-endian bytes, and the payload
abbrev pub without_gate : List ℕ → List ℕ
without_gate payload = little_bytes 4 (length payload) ++ payload

-- a record: an open gate, and the rest
abbrev pub record_of : List ℕ → List ℕ
record_of payload = 1 ∷ without_gate payload

-- the records of these payloads, one after another
abbrev pub records : List (List ℕ) → List ℕ
records payloads = flat_map record_of payloads

-- a payload whose length fits in four bytes
abbrev pub IsShort : List ℕ → Type 0
IsShort payload = length payload < 2 ^ 32

-- bytes stand for these payloads: their records, then a gate byte that is not open, and anything behind it
pub record StandsFor (bytes : List ℕ) (payloads : List (List ℕ)) : Type 0 where
  pub short : All IsShort payloads
  pub gate : ℕ
  pub closed : gate ≢ 1
  pub rest : List ℕ
  pub spelled : bytes ≡ records payloads ++ gate ∷ rest
