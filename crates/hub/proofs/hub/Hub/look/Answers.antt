use Rattle.std.proofs.Common.{Option, ℤ, subst}
use Rattle.machine.specs.Machine.{IsValueAt}
use Rattle.hub.specs.Opening.{facts_behind}
use Rattle.hub.specs.Running.{kept_of, said_by}
use Rattle.hub.proofs.Bodies.{nowhere_in}
use Rattle.hub.proofs.hub.Hub.look.Goals as goal

pub returns-in-Ok-None-clause-found : goal.returns-in-Ok-None-clause-found
returns-in-Ok-None-clause-found g c =
    let X = facts_behind g.J.Naming.opening c.read.new.pass.seen in
    nowhere_in X (kept_of c.args.kept) c.args.address
    (subst (λ (found : Option ℤ). IsValueAt (said_by (kept_of c.args.kept)) c.args.address found) c.in-None.is c.put_by.ensures)
    (subst (λ (found : Option ℤ). IsValueAt X c.args.address found) c.in-Ok-None.field-0-is c.in-Ok-None.ensures.value)
