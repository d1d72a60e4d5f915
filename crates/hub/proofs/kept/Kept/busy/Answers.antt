use Rattle.hub.proofs.Telling.{tells_nothing}
use Rattle.hub.proofs.kept.Kept.busy.Goals as goal

pub returns-clause-seen : goal.returns-clause-seen
returns-clause-seen g c = tells_nothing _ c.self.inside.desk.book.history _ _ c.self.invariant.legal c.show.ensures.pass
