-- A read of the item that is asked for gives its value.
use Rattle.std.proofs.Common.{◌≡◌, ℤ, Bool, List, ◌∷◌, if◌then◌else◌, ap}
use Rattle.terms.specs.declared.name.Addr.{Addr}
use Rattle.terms.specs.Same.{same_itself}
use Rattle.steptree.specs.Run.{Read, Outcome, strays, answered}

pub answers : (address : Addr) (value : ℤ) (reads : List Read) (next : ℤ → List Read → Outcome) → answered address ((address, value) ∷ reads) next ≡ next value reads
answers address value reads next = ap (λ (same : Bool). if same then next value reads else strays) (same_itself address)
