use Rattle.terms.specs.Facts.{done}
use Rattle.machine.specs.Machine.{facts}
use Rattle.machine.specs.Marked.{marked}
use Rattle.audit.proofs.Looking.{not_done}
use Rattle.audit.proofs.steps.is_marked.Goals as goal

pub returns-in-None : goal.returns-in-None
returns-in-None c = not_done (facts c.args.marks.now.store (done c.args.inst)) (marked c.args.marks.now (done c.args.inst)) (c.is_part.ensures (done c.args.inst)) c.in-None.ensures
