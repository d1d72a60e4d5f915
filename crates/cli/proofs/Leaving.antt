-- How a store is left: whether it has a fault.
use Rattle.std.proofs.Common.{◌≡◌, ◌↔◌, Bool, true, Option, Some, None, is_some, refl, sym, ◌∙◌}
use Rattle.std.proofs.lemmas.Bool.{false≢true}
use Rattle.terms.specs.declared.name.Inst.{Inst}
use Rattle.terms.specs.declared.fault.FaultKind.{FaultKind}
use Rattle.terms.specs.Facts.{bad}
use Rattle.machine.specs.Machine.{Machine, facts}
use Rattle.machine.specs.Status.{TellsFault}

no_fault : (fault : Inst × FaultKind) → ◌≡◌ {A = Option (Inst × FaultKind)} None (Some fault) → ⊥
no_fault fault same = cc

pub stopped : (m : Machine) (fault : Option (Inst × FaultKind)) (told : Bool) → TellsFault m fault → told ≡ is_some fault → (told ≡ true) ↔ ((instance : Inst) × (kind : FaultKind) × (facts m (bad instance kind) ≡ true))
stopped m None told tells is = (λ yes. absurd (false≢true (sym is ∙ yes)), λ there. absurd (no_fault (there.0, there.1) ((tells there.0 there.1).0 there.2)))
stopped m (Some fault) told tells is = (λ yes. (fault.0, fault.1, (tells fault.0 fault.1).1 refl), λ there. is)
