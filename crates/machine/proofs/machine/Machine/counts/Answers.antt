use Rattle.std.proofs.Common.{subst}
use Rattle.machine.specs.declared.counts.Counts.{Counts}
use Rattle.machine.specs.Counts.{AreCountsOf}
use Rattle.machine.specs.Machine.{Machine, facts}
use Rattle.machine.proofs.Holding.{are_counts_of}
use Rattle.machine.proofs.machine.Machine.counts.Goals as goal

pub returns : goal.returns
returns c =
    let counts : Counts = record { items = c.count.result; tags = c.tag_count.result; prescribed = c.count-2.result; done = c.done_count.result } in
    subst (λ (s : Machine). AreCountsOf s.graph (facts s) counts) c.self.view_is
    (are_counts_of c.facts_are_told_apart.ensures.one c.self.inside.memory c.orders_are_total.ensures.keys c.orders_are_total.ensures.keys_tie c.self.inside.graph.value c.self.invariant.0
    c.are_there_together.ensures counts c.count.ensures c.tag_count.ensures c.count-2.ensures c.done_count.ensures)
