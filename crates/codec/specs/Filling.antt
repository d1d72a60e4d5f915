-- Bytes that are written over those of a list, from a place on.
use Rattle.std.specs.Prelude.{◌≡◌, ◌≤◌, ◌+◌, ◌++◌, ℕ, List, length, take}
use Rattle.codec.specs.declared.elements.TheConstants.{MOST_BYTES}

-- these bytes were written from this place up to the end; those before the place stay, and the list is as long as before
pub record Fills (bytes : List ℕ) (place : ℕ) (old new : List ℕ) (end : ℕ) : Type 0 where
  pub end_is : end ≡ place + length bytes
  pub filled : take end new ≡ take place old ++ bytes
  pub length_stays : length new ≡ length old

-- an element was written to the front, and the number of its bytes returned
pub record FillsFront (bytes : List ℕ) (old new : List ℕ) (count : ℕ) : Type 0 where
  pub filled : take count new ≡ bytes
  pub within : count ≤ MOST_BYTES
  pub length_stays : length new ≡ length old
