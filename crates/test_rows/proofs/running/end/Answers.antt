use Rattle.std.proofs.Common.{sym, subst}
use Rattle.terms.specs.declared.event.Event.TheVariants.{Done, Stopped}
use Rattle.terms.specs.declared.fault.FaultKind.TheVariants.{DoublePut}
use Rattle.machine.specs.declared.end.End.{End}
use Rattle.machine.specs.Legal.{IsLegal}
use Rattle.machine.specs.Machine.{Machine, event_of, facts}
use Rattle.test_rows.proofs.running.end.Goals as goal

pub finish-requires-clause-legal : goal.finish-requires-clause-legal
finish-requires-clause-legal c =
    let old = c.args.machine.now in
    subst (λ (m : Machine). IsLegal m.graph (facts m) (Done c.args.task c.args.puts.now)) (sym c.may_end.ensures.same)
    (subst (λ (e : End). IsLegal old.graph (facts old) (event_of e c.args.task c.args.puts.now)) c.in-Ok-Done.field-0-is c.in-Ok-Done.ensures.legal)

pub take_fault-requires-clause-legal : goal.take_fault-requires-clause-legal
take_fault-requires-clause-legal c =
    let old = c.args.machine.now in
    subst (λ (m : Machine). IsLegal m.graph (facts m) (Stopped c.args.task DoublePut)) (sym c.may_end.ensures.same)
    (subst (λ (e : End). IsLegal old.graph (facts old) (event_of e c.args.task c.args.puts.now)) c.in-Ok-DoublePut.field-0-is c.in-Ok-DoublePut.ensures.legal)
