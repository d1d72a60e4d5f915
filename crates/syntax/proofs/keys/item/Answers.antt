use Rattle.std.proofs.Common.{refl}
use Rattle.syntax.specs.Expected.{item}
use Rattle.syntax.proofs.Returned.{as_err}
use Rattle.syntax.proofs.keys.item.Goals as goal

pub returns-clause-stops : goal.returns-clause-stops
returns-clause-stops c = as_err c.key.result _ _ c.key.ensures.stops (λ stop stops. stops item refl)
