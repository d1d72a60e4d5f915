use Rattle.std.proofs.Common.{subst, sym}
use Rattle.passes.specs.Known.{Desk}
use Rattle.hub.specs.Kept.{HasRun, IsKept}
use Rattle.hub.proofs.Telling.{tells_nothing}
use Rattle.hub.proofs.Ticketed.{adds_tickets, refuses_claims}
use Rattle.hub.proofs.kept.Kept.take_tickets.Goals as goal

pub returns-clause-seen : goal.returns-clause-seen
returns-clause-seen g c = tells_nothing _ c.self.inside.desk.book.history _ _ c.self.invariant.legal c.show.ensures.pass

pub returns-clause-tickets : goal.returns-clause-tickets
returns-clause-tickets g c =
    let e = c.take_tickets-answer.ensures in
    adds_tickets _ c.self.inside.desk.book.history c.args.pass.now c.show.new.pass c.self.inside.core c.take_tickets-answer.new.self c.self.inside.numbers c.take_tickets-answer.new.numbers c.args.tickets.now.items
    c.take_tickets-answer.new.tickets.items c.take_tickets-answer.result c.is_kept.ensures.machine c.self.invariant.behind c.show.ensures.pass (record { same = e.same; ok = e.ok; none = e.none; err = e.err })
