use Rattle.std.proofs.Common.{subst}
use Rattle.terms.specs.Sets.{Facts}
use Rattle.graph.specs.Graph.{Graph}
use Rattle.machine.specs.Counts.{AreCountsOf}
use Rattle.hub.proofs.Telling.{tells_nothing, known_state}
use Rattle.hub.proofs.kept.Kept.counts.Goals as goal

pub returns-clause-seen : goal.returns-clause-seen
returns-clause-seen g c = tells_nothing _ c.self.inside.desk.book.history _ _ c.self.invariant.legal c.show.ensures.pass

pub returns-clause-counts : goal.returns-clause-counts
returns-clause-counts g c =
    subst (λ (of : Graph × Facts). AreCountsOf of.0 of.1 c.counts-counts.result)
    (λ i. (c.self.invariant.behind.graph i, known_state g.J.Naming.opening c.self.inside.desk.book.history c.args.pass.now c.show.new.pass c.self.inside.core c.self.invariant.behind c.show.ensures.pass i)) c.counts-counts.ensures
