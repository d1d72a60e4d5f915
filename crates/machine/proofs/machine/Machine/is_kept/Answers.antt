use Rattle.std.proofs.Common.{subst}
use Rattle.machine.specs.Promise.{IsKept}
use Rattle.machine.proofs.Promised.{keeps}
use Rattle.machine.proofs.machine.Machine.is_kept.Goals as goal

pub returns : goal.returns
returns c =
    subst IsKept c.self.view_is (keeps c.facts_are_told_apart.ensures.one c.orders_are_total.ensures.keys c.orders_are_total.ensures.keys_tie c.self.inside.graph.value c.self.inside.memory c.self.invariant.0 c.are_there_together.ensures c.are_counted.ensures)
