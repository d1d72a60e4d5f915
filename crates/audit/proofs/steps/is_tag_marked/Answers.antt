use Rattle.terms.specs.Facts.{tag}
use Rattle.instances.specs.Known.{mark_of}
use Rattle.machine.specs.Marked.{marked}
use Rattle.audit.proofs.Looking.{no_tag}
use Rattle.audit.proofs.steps.is_tag_marked.Goals as goal

pub returns-in-None : goal.returns-in-None
returns-in-None c = no_tag (mark_of c.args.marks.now.store.memory.instances c.args.tag) (marked c.args.marks.now (tag c.args.tag)) (c.is_part.ensures (tag c.args.tag)) c.in-None.ensures
