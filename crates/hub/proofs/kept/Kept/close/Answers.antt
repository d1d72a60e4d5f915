use Rattle.hub.proofs.Opened.{whole}
use Rattle.hub.proofs.kept.Kept.close.Goals as goal

pub returns-clause-whole : goal.returns-clause-whole
returns-clause-whole g c =
    whole _ g.J.Naming.opening g.J.Naming.passes c.into_parts-core.result.1 c.look.new.desk c.gather.new.desk c.into_parts-core.result.0 c.args.self.history c.args.envs.items c.args.workers.items
    c.into_parts-core.ensures.kept c.into_parts-core.ensures.book c.look.ensures.same c.look.ensures.compared c.gather.ensures.desk c.gather.ensures.passes c.gather-2.ensures.passes c.gather.ensures.made c.gather-2.ensures.made c.requires
