use Rattle.std.proofs.Common.{List, Ok, ap, arith, length, subst, sym}
use Rattle.std.specs.List.{AllByRecursion}
use Rattle.terms.specs.declared.event.Event.{Event}
use Rattle.machine.specs.Machine.{IsPut}
use Rattle.commit.specs.PutsAll.{PutsAll}
use Rattle.session.specs.declared.reply.Reply.{Reply}
use Rattle.session.specs.Lines.{AnswersFirst}
use Rattle.commit.proofs.GoingOn.{nothing_came}
use Rattle.session.proofs.GroupReplies.{are_puts, no_more}
use Rattle.session.proofs.Tried.{first_came, first_halted, idle_after, same_store}
use Rattle.session.proofs.rows.put_together.Goals as goal

pub put_all-requires : goal.put_all-requires
put_all-requires g c = subst (λ (list : List Event). AllByRecursion IsPut list) (sym c.in-Ok.ensures) (are_puts c.args.commands.now)

pub returns-in-Ok-put_all-clause-idle : goal.returns-in-Ok-put_all-clause-idle
returns-in-Ok-put_all-clause-idle g c =
    idle_after g.D.Disk c.args.core.now c.put_all.new.self c.in-Ok.events.items (Ok c.in-Ok-put_all.count)
    (subst (λ (list : List Event). AllByRecursion IsPut list) (sym c.in-Ok.ensures) (are_puts c.args.commands.now)) c.in-Ok-put_all.ensures c.requires.idle

pub returns-in-Ok-put_all-clause-answers : goal.returns-in-Ok-put_all-clause-answers
returns-in-Ok-put_all-clause-answers g c =
    first_came g.D.Disk c.args.core.now c.put_all.new.self c.args.commands.now c.in-Ok-put_all.count c.requires.puts c.requires.few
    (omega (arith, c.in-Ok-put_all.count-test))
    (subst (λ (list : List Event). PutsAll g.D.Disk c.args.core.now c.put_all.new.self list (Ok c.in-Ok-put_all.count)) c.in-Ok.ensures c.in-Ok-put_all.ensures)

pub returns-in-Err-status-clause-answers : goal.returns-in-Err-status-clause-answers
returns-in-Err-status-clause-answers g c =
    subst (λ (reply : Reply). AnswersFirst g.D.Disk c.args.core.now c.put_all.new.self c.args.commands.now reply) (sym c.refusal.ensures)
    (first_halted g.D.Disk c.args.core.now c.put_all.new.self c.in-Ok.events.items c.in-Err-put_all.error c.in-Err-put_all.ensures c.in-Err-status.ensures.halted.0
    c.args.commands.now c.requires.some c.requires.puts c.in-Ok.ensures)

pub returns-in-Err-clause-answers : goal.returns-in-Err-clause-answers
returns-in-Err-clause-answers g c = (
  same_store g.D.Disk c.args.core.now,
  nothing_came g.D.Disk (λ on. (c.stores_go_on.ensures.rest on).commits) (λ on. (c.stores_go_on.ensures.gates on).rest) c.args.core.now c.is_kept.ensures.kept c.is_kept.ensures.settled,
)
