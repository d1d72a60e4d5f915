use Rattle.std.proofs.Common.{subst, sym}
use Rattle.terms.specs.declared.event.Event.{Event}
use Rattle.machine.specs.Legal.{IsLegal}
use Rattle.machine.specs.Machine.{facts}
use Rattle.machine.proofs.machine.Machine.may_put.Goals as goal

pub returns-in-Ok : goal.returns-in-Ok
returns-in-Ok c = subst (λ (event : Event). IsLegal c.args.self.now.graph (facts c.args.self.now) event) (sym c.in-EnvItem.is) (c.in-Ok.ensures.legal c.in-EnvItem.field-1)
