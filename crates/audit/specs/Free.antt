-- Whether items of a set are at the addresses of puts.
use Rattle.std.specs.Prelude.{◌≡◌, ⊤, ℕ, ℤ, true, List, Some, slice_get}
use Rattle.terms.specs.declared.producer.Producer.{Producer}
use Rattle.terms.specs.declared.put.Put.{Put}
use Rattle.terms.specs.declared.put.Put.TheVariants as put
use Rattle.terms.specs.Facts.{item}
use Rattle.terms.specs.Sets.{Facts}
use Rattle.graph.specs.Fits.{IsAbsent}

-- no item is where the put goes
abbrev pub IsFree : Facts → Put → Type 0
IsFree X (put.Item address value) = IsAbsent X address
IsFree X (put.Tag name) = ⊤

-- an item is there
abbrev pub IsTaken : Facts → Put → Type 0
IsTaken X (put.Item address value) = (other : ℤ) × (by : Producer) × (X (item address other by) ≡ true)
IsTaken X (put.Tag name) = ⊥

abbrev pub AreAllFree : Facts → List Put → Type 0
AreAllFree X puts = (number : ℕ) (one : Put) → slice_get puts number ≡ Some one → IsFree X one

pub record IsOneTaken (X : Facts) (puts : List Put) : Type 0 where
  pub number : ℕ
  pub put : Put
  pub is_one : slice_get puts number ≡ Some put
  pub taken : IsTaken X put
