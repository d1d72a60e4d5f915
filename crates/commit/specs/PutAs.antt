-- What a list of puts, or an outcome, puts at an address.
use Rattle.std.specs.Prelude.{◌≡◌, ℤ, List, [], ◌∷◌, ◌++◌, Option, None, Some}
use Rattle.terms.specs.declared.name.Addr.{Addr}
use Rattle.terms.specs.declared.put.Put.{Put}
use Rattle.terms.specs.declared.put.Put.TheVariants as put
use Rattle.graph.specs.Fits.{addresses, IsIn}
use Rattle.commit.specs.declared.outcome.Outcome.{Outcome}
use Rattle.commit.specs.declared.outcome.Outcome.TheVariants.{Gave, Fault}

-- one of these puts is of an item of this value at the address; or none is of an item there
abbrev pub IsPutAs : List Put → Addr → Option ℤ → Type 0
IsPutAs puts address None = IsIn address (addresses puts) → ⊥
IsPutAs puts address (Some value) = (before behind : List Put) × (puts ≡ before ++ put.Item address value ∷ behind)

-- what an outcome puts
abbrev pub puts_said : Outcome → List Put
puts_said (Gave given) = given.puts
puts_said (Fault bad) = []

-- what the outcome puts, if there is one
abbrev pub puts_in : Option Outcome → List Put
puts_in None = []
puts_in (Some outcome) = puts_said outcome
