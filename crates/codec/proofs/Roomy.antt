-- What calls take of the room of a vector.
use Rattle.std.proofs.Common.{◌≡◌, ◌+◌, ◌*◌, ◌≤◌, ◌++◌, ap, ℕ, ℤ, List, [], ◌∷◌, length, arith, length-append}
use Rattle.std.specs.Prelude.{Result}
use Rattle.std.specs.Global.{Vec}
use Rattle.std.specs.List.{flat_map}
use Rattle.codec.specs.Room.{TakesRoom}
use Rattle.codec.specs.Spelling.{value_bytes, name_bytes}

-- two, one after the other
pub takes_both : {T E U F : Type 0} (one two : List ℕ) (old mid new : Vec ℕ) (first : Result T E) (second : Result U F) →
    mid.items ≡ old.items ++ one → TakesRoom (length one) old mid first → TakesRoom (length two) mid new second → TakesRoom (length (one ++ two)) old new second
takes_both one two old mid new first second is took takes = record {
  capacity = omega (arith, took.capacity, takes.capacity);
  fits = λ enough. takes.fits (omega (arith, enough, took.capacity, ap length is, length-append old.items one, length-append one two));
}

-- more room is enough too
pub takes_less : {T E : Type 0} (count most : ℕ) (old new : Vec ℕ) (result : Result T E) → count ≤ most → TakesRoom count old new result → TakesRoom most old new result
takes_less count most old new result less took = record { capacity = took.capacity; fits = λ enough. took.fits (omega (arith, enough, less)) }

-- each component has eight bytes
pub components_long : (key : List ℤ) → length (flat_map value_bytes key) ≡ 8 * length key
components_long [] = omega arith
components_long (x ∷ key) = omega (arith, length-append (value_bytes x) (flat_map value_bytes key), components_long key)

-- a name of four components has 35 bytes
pub name_short : (collection : ℕ) (key : List ℤ) → length key ≤ 4 → length (name_bytes collection key) ≤ 35
name_short collection key few = omega (arith, few, components_long key)

-- and so many more with what follows it
pub behind_name : (collection : ℕ) (key : List ℤ) (more : List ℕ) → length key ≤ 4 → length (name_bytes collection key ++ more) ≤ 35 + length more
behind_name collection key more few = omega (arith, few, components_long key, length-append (flat_map value_bytes key) more)
