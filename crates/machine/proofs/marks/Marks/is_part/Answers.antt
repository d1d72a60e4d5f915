use Rattle.std.proofs.Common.{subst}
use Rattle.machine.specs.Marked.{IsPartOfStore}
use Rattle.machine.proofs.MarkedFacts.{is_part}
use Rattle.machine.proofs.marks.Marks.is_part.Goals as goal

pub returns : goal.returns
returns c = subst IsPartOfStore c.self.view_is (is_part (record { store = c.self.inside.store.now; items = c.self.inside.items; tags = c.self.inside.tags; done = c.self.inside.done }) c.self.invariant)
