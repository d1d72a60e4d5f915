use Rattle.std.proofs.Common.{IfOk, subst}
use Rattle.terms.specs.Sets.{Facts}
use Rattle.machine.specs.Machine.{IsValueAt}
use Rattle.hub.proofs.Telling.{tells_nothing, known_state}
use Rattle.hub.proofs.kept.Kept.read.Goals as goal

pub returns-clause-seen : goal.returns-clause-seen
returns-clause-seen g c = tells_nothing _ c.self.inside.desk.book.history _ _ c.self.invariant.legal c.show.ensures.pass

pub returns-clause-value : goal.returns-clause-value
returns-clause-value g c =
    subst (λ (X : Facts). IfOk c.read-answer.result (IsValueAt X c.args.addr)) (known_state g.J.Naming.opening c.self.inside.desk.book.history c.args.pass.now c.show.new.pass c.self.inside.core c.self.invariant.behind c.show.ensures.pass) c.read-answer.ensures.value
