-- The states of the instances of a step, made of what is kept of them: how each stands, and the addresses at which some wait.
use Rattle.std.specs.Prelude.{ℤ, ⊤, Bool, cond, List, [], map, Option, Some, None}
use Rattle.std.specs.FinMap.{FinMap, entries, from_sorted}
use Rattle.std.specs.Map.{lookup}
use Rattle.std.specs.BTreeMap.{BTreeMap, is_at}
use Rattle.terms.specs.Key.{key_cmp}
use Rattle.terms.specs.declared.name.Addr.{Addr}
use Rattle.instances.specs.declared.standing.Standing.{Standing}
use Rattle.instances.specs.declared.standing.Standing.TheVariants as stands
use Rattle.instances.specs.declared.state.State.{State}
use Rattle.instances.specs.declared.state.State.TheVariants.{Ready, Running, Waiting, Done}

abbrev pub Addresses : Type 0
Addresses = List (List ℤ × Addr)

-- the address that is kept for a key
abbrev pub address_in : Addresses → List ℤ → Option Addr
address_in addresses key = lookup (is_at (key_cmp key)) addresses

-- the state of an instance that stands so, for which this address is kept; one that waits has an address
abbrev pub state_with : Standing → Option Addr → State
state_with stands.Ready address = Ready
state_with stands.Running address = Running
state_with stands.Waiting None = Ready
state_with stands.Waiting (Some address) = Waiting address
state_with stands.Done address = Done

-- it does not wait
abbrev pub IsPlain : Standing → Type 0
IsPlain stands.Ready = ⊤
IsPlain stands.Running = ⊤
IsPlain stands.Waiting = ⊥
IsPlain stands.Done = ⊤

-- how an instance stands at first
abbrev pub first_of : Bool → Standing
first_of is_done = cond is_done stands.Done stands.Ready

abbrev pub stated : Addresses → List ℤ × Standing → List ℤ × State
stated addresses entry = (entry.0, state_with entry.1 (address_in addresses entry.0))

-- each key with its state
abbrev pub joined : FinMap key_cmp Standing → Addresses → FinMap key_cmp State
joined standings addresses = from_sorted (map (stated addresses) (entries standings))

-- the addresses that a map keeps, if there is one
abbrev pub kept_in : Option (BTreeMap (List ℤ) Addr) → Addresses
kept_in None = []
kept_in (Some addresses) = addresses.entries
