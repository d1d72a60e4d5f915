-- A look at ends that come together, before they are put in order.
use Rattle.std.specs.Prelude.{◌≡◌, ◌⊎◌, ⊤, ℕ, List, [], ◌∷◌, suc, take, Option, Some, None, Bool, MatchBool}
use Rattle.terms.specs.declared.name.Addr.{Addr}
use Rattle.terms.specs.declared.fault.FaultKind.{FaultKind}
use Rattle.terms.specs.declared.put.Put.{Put}
use Rattle.terms.specs.declared.event.Event.{Event}
use Rattle.terms.specs.declared.event.Event.TheVariants as event
use Rattle.graph.specs.Fits.{addresses, IsTwiceIn}
use Rattle.items.specs.Held.{Held}
use Rattle.machine.specs.Absence.{AreAllAbsent, IsOneThere}
use Rattle.machine.specs.Group.{puts_of_all}

-- the event ends an instance
abbrev pub IsEnd : Event → Type 0
IsEnd (event.EnvItem address value) = ⊥
IsEnd (event.EnvTag name) = ⊥
IsEnd (event.Done instance puts) = ⊤
IsEnd (event.Stopped instance kind) = ⊤

-- the event is a fault of this kind
abbrev pub IsFault : FaultKind → Event → Type 0
IsFault kind (event.EnvItem address value) = ⊥
IsFault kind (event.EnvTag name) = ⊥
IsFault kind (event.Done instance puts) = ⊥
IsFault kind (event.Stopped instance own) = kind ≡ own

-- the next of these events is such a fault, if there is one; without a fault there is no next event
abbrev pub IsFaultNext : Option FaultKind → List Event → Type 0
IsFaultNext None rest = rest ≡ []
IsFaultNext (Some kind) [] = ⊥
IsFaultNext (Some kind) (event ∷ rest) = IsFault kind event

-- no item is at an address of these puts, and no two of their items are at one address
pub record AreAllNew (held : Held) (puts : List Put) : Type 0 where
  pub absent : AreAllAbsent held puts
  pub distinct : (address : Addr) → IsTwiceIn address (addresses puts) → ⊥

-- an item is at the address of one of them, or two of their items are at one address
abbrev pub IsOneNotNew : Held → List Put → Type 0
IsOneNotNew held puts = IsOneThere held puts ⊎ ((address : Addr) × IsTwiceIn address (addresses puts))

-- the puts of the first of these events are new, as many as the number says, and with those of the next event they are not
pub record AreNewUpTo (held : Held) (events : List Event) (number : ℕ) : Type 0 where
  pub new : AreAllNew held (puts_of_all (take number events))
  pub next : IsOneNotNew held (puts_of_all (take (suc number) events))

-- the answer says whether no address is twice in the list
abbrev pub TellsDistinct : List Addr → Bool → Type 0
TellsDistinct list answer = MatchBool answer ((address : Addr) → IsTwiceIn address list → ⊥) ((address : Addr) × IsTwiceIn address list)

-- it says whether these puts are new together
abbrev pub TellsNew : Held → List Put → Bool → Type 0
TellsNew held puts answer = MatchBool answer (AreAllNew held puts) (IsOneNotNew held puts)
