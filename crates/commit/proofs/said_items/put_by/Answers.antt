use Rattle.std.proofs.Common.{None, sym, subst}
use Rattle.commit.specs.declared.outcome.Outcome.{Outcome}
use Rattle.commit.specs.PutAs.{IsPutAs, puts_said}
use Rattle.commit.proofs.ItemsSaid.{none_puts}
use Rattle.commit.proofs.said_items.put_by.Goals as goal

pub returns-in-Fault : goal.returns-in-Fault
returns-in-Fault c = subst (λ (o : Outcome). IsPutAs (puts_said o) c.args.address.now None) (sym c.in-Fault.is) (none_puts c.args.address.now)
