-- What the body of a step means: how it ends along a list of reads, and how it ends over a set of items.
use Rattle.std.specs.Prelude.{◌≡◌, ◌-◌, ℤ, pos, List, [], ◌∷◌, ◌++◌, length, replicate, Option, Some, None}
use Rattle.std.specs.List.{AllByRecursion}
use Rattle.terms.specs.declared.name.Addr.{Addr}
use Rattle.terms.specs.declared.put.Put.{Put}
use Rattle.terms.specs.declared.fault.FaultKind.{FaultKind}
use Rattle.steptree.specs.declared.slot.TheConstants.{MOST_NAMES}
use Rattle.steptree.specs.declared.body.Body.{Body}
use Rattle.steptree.specs.Run.{Read, State, Outcome, ends, faults, asks, strays, followed, run}

-- a body gives puts, is at fault, or asks for an item
pub data Ending : Type 0 where
  Gives : List Put → Ending
  Faults : FaultKind → Ending
  Asks : Addr → Ending

-- an instance before its first statement: its parameters are the key's components, and its variables are 0
abbrev pub begun : List ℤ → List Read → State
begun key reads = record { variables = key ++ replicate (MOST_NAMES - length key) (pos 0); counted = 0; reads = reads; puts = [] }

-- the read block, and after it the write block
abbrev pub outcome_of : Body → List ℤ → List Read → Outcome
outcome_of body key reads = followed (run body.read (begun key reads)) (run body.write)

-- the ending, if no read is left
abbrev pub used_up : List Read → Ending → Option Ending
used_up [] ending = Some ending
used_up (read ∷ reads) ending = None

abbrev pub ending_of : Outcome → Option Ending
ending_of (ends state) = used_up state.reads (Gives state.puts)
ending_of (faults kind reads) = used_up reads (Faults kind)
ending_of (asks address) = Some (Asks address)
ending_of strays = None

-- if the gets of an instance with this key are answered by these reads in order, the body ends with `ending` and uses all of the reads
abbrev pub Along : Body → List ℤ → List Read → Ending → Type 0
Along body key reads ending = ending_of (outcome_of body key reads) ≡ Some ending

-- Over these pairs of an address and a value the body ends with `ending`: along some reads that are all among the pairs; and
-- if it asks for an item, no pair has that item's address. An address may have several values in `pairs`.
pub record Means (body : Body) (key : List ℤ) (pairs : Addr → ℤ → Type 0) (ending : Ending) : Type 0 where
  pub reads : List Read
  pub among : AllByRecursion (λ read. pairs read.0 read.1) reads
  pub along : Along body key reads ending
  pub needs : (address : Addr) → ending ≡ Asks address → (value : ℤ) → pairs address value → ⊥
