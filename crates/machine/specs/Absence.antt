-- Whether items are there at the addresses of a list of puts.
use Rattle.std.specs.Prelude.{◌≡◌, ℤ, List, None, Some}
use Rattle.terms.specs.declared.name.Addr.{Addr}
use Rattle.terms.specs.declared.producer.Producer.{Producer}
use Rattle.terms.specs.declared.put.Put.{Put}
use Rattle.graph.specs.Fits.{addresses, IsIn}
use Rattle.items.specs.Held.{Held, item_at}

-- no item is at an address of these puts
abbrev pub AreAllAbsent : Held → List Put → Type 0
AreAllAbsent held puts = (address : Addr) → IsIn address (addresses puts) → item_at held address ≡ None

-- an item is at the address of one of them
abbrev pub IsOneThere : Held → List Put → Type 0
IsOneThere held puts = (address : Addr) × (IsIn address (addresses puts) × ((it : ℤ × Producer) × (item_at held address ≡ Some it)))
