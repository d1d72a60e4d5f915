-- What `Items` holds: a finite map of items that only grows, with room for more, and the instances that wait at addresses.
use Rattle.std.specs.Prelude.{◌≡◌, ℕ, ℤ, ◌<◌, List, [], ◌∷◌, ◌++◌, length, Option, None, IsSomeAnd}
use Rattle.std.specs.Option.{unwrap_or}
use Rattle.std.specs.FinMap.{FinMap, empty, get, insert, remove}
use Rattle.terms.specs.declared.name.Addr.{Addr}
use Rattle.terms.specs.declared.name.Inst.{Inst}
use Rattle.terms.specs.declared.name.ItemCollection.{ItemCollection}
use Rattle.terms.specs.declared.producer.Producer.{Producer}
use Rattle.maps.specs.Numbered.{Numbered, Place, none_held, place_cmp, room_at}
use Rattle.items.specs.declared.error.PutError.{PutError}
use Rattle.items.specs.declared.error.PutError.TheVariants.{AlreadyPut, NoMemory}

-- an address as the number of its collection and its key, and back
abbrev pub place : Addr → Place
place address = (address.collection.0, address.key)

abbrev pub address_at : Place → Addr
address_at at = record { collection = record { 0 = at.0 }; key = at.1 }

-- the items by address, each with its value and who put it, and room for more; and the instances that wait at each address, in the
-- order in which they came
pub record Held : Type 0 where
  pub items : Numbered (ℤ × Producer)
  pub waiting : FinMap place_cmp (List Inst)

-- no items, and no room for any, of so many collections
abbrev pub no_items : ℕ → Held
no_items collections = record { items = none_held collections; waiting = empty }

-- the item at an address, if there is one
abbrev pub item_at : Held → Addr → Option (ℤ × Producer)
item_at held address = get held.items.items (place address)

-- the instances that wait at an address
abbrev pub waiters_at : Held → Addr → List Inst
waiters_at held address = unwrap_or (get held.waiting (place address)) []

-- the number of further items of a collection that there is room for
abbrev pub room_for : Held → ItemCollection → ℕ
room_for held collection = room_at held.items collection.0

-- there is such a collection
abbrev pub IsOfCollection : Held → ItemCollection → Type 0
IsOfCollection held collection = collection.0 < length held.items.room

-- why a put is refused. `AlreadyPut`: the item is already there, with this value. `NoMemory`: the item is not there, and there
-- was no room.
abbrev pub IsRefused : Held → Addr → PutError → Type 0
IsRefused held address (AlreadyPut value) = IsSomeAnd (item_at held address) (λ item. item.0 ≡ value)
IsRefused held address NoMemory = (item_at held address ≡ None) × (room_for held address.collection ≡ 0)

-- one more instance waits at the address, after those that already wait there
abbrev pub with_waiter : Held → Addr → Inst → Held
with_waiter held address instance = record { items = held.items; waiting = insert held.waiting (place address) (waiters_at held address ++ instance ∷ []) }

-- no instance waits at the address
abbrev pub without_waiters : Held → Addr → Held
without_waiters held address = record { items = held.items; waiting = remove held.waiting (place address) }
