use Rattle.std.proofs.Common.{◌∙◌, subst, arith}
use Rattle.instances.specs.Tickets.{AddsTicket}
use Rattle.instances.proofs.Handing.{one_more}
use Rattle.instances.proofs.instances.Instances.take_tickets.Goals as goal

pub loop-added-preserved : goal.loop-added-preserved
loop-added-preserved c =
    let adds = subst (λ known. AddsTicket known c.loop-added.numbers c.add_ticket.new.numbers c.loop-added.tickets.items c.add_ticket.new.tickets.items) c.loop-added.invariant.0 (c.in-Ok-true.ensures.ok c.in-Ok-true.field-0-test) in (
      c.add_ticket.ensures.same.0 ∙ c.loop-added.invariant.0,
      one_more c.args.self.now c.args.numbers.now c.loop-added.numbers c.add_ticket.new.numbers c.reserve.new.self.items c.loop-added.tickets.items c.add_ticket.new.tickets.items c.loop-added.added
          c.loop-added.invariant.1 adds,
      omega (arith, c.add_ticket.ensures.same.1, c.loop-added.invariant.2),
    )
