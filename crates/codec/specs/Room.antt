-- Bytes that are appended to a vector that has room for them.
use Rattle.std.specs.Prelude.{◌+◌, ◌≤◌, ℕ, length, vec_capacity, Result, IsOk}
use Rattle.std.specs.Global.{Vec}

-- no memory is refused if there is room for so many bytes, and the room does not shrink
pub record TakesRoom {T E : Type 0} (count : ℕ) (old new : Vec ℕ) (result : Result T E) : Type 0 where
  pub capacity : vec_capacity old ≤ vec_capacity new
  pub fits : length old.items + count ≤ vec_capacity old → IsOk result
