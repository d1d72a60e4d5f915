use Rattle.hub.proofs.Telling.{tells_nothing}
use Rattle.hub.proofs.kept.Kept.watch.Goals as goal

pub returns-after-watch_at-clause-seen : goal.returns-after-watch_at-clause-seen
returns-after-watch_at-clause-seen g c = tells_nothing _ c.self.inside.desk.book.history _ _ c.self.invariant.legal c.show.ensures.pass

pub returns-in-Err-clause-seen : goal.returns-in-Err-clause-seen
returns-in-Err-clause-seen g c = tells_nothing _ c.self.inside.desk.book.history _ _ c.self.invariant.legal c.show.ensures.pass
