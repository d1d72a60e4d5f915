use Rattle.sides.proofs.TakenEvents.{EventsTaken}
use Rattle.sides.proofs.taking.take_all.Given as goal

abbrev pub invariant-loop-event : goal.invariant-loop-event
invariant-loop-event l = EventsTaken l.graph l.events l.event-index l.fn.holdings l.holdings
