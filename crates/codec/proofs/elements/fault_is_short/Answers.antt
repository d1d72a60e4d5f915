use Rattle.std.proofs.Common.{◌∷◌, [], arith}
use Rattle.terms.specs.Fault.{fault_number}
use Rattle.codec.proofs.Roomy.{behind_name}
use Rattle.codec.proofs.elements.fault_is_short.Goals as goal

pub returns-in-Some : goal.returns-in-Some
returns-in-Some c = rw (c.in-Some.is) (omega (arith, behind_name c.in-Some.instance.collection.0 c.in-Some.instance.key (fault_number c.in-Some.field-0-1 ∷ []) c.is_short.ensures))
