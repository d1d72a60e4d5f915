-- Why an entry is not added.
use Rattle.std.specs.Prelude.{◌≡◌, ℕ, Option, Some, None}
use Rattle.maps.specs.declared.error.InsertError.{InsertError}
use Rattle.maps.specs.declared.error.InsertError.TheVariants.{Taken, NoMemory}

-- Takes the value that the key has, and the room that there was. `Taken`: the key already has this value. `NoMemory`: the key
-- has no value, and there was no room.
abbrev pub IsRefused : {X : Type 0} → Option X → ℕ → InsertError X → Type 0
IsRefused there room (Taken value) = there ≡ Some value
IsRefused there room NoMemory = (there ≡ None) × (room ≡ 0)
