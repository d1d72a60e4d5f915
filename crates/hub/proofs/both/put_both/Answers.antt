use Rattle.std.proofs.Common.{rules}
use Rattle.hub.proofs.TwoPuts.{both_put}
use Rattle.hub.proofs.both.put_both.Goals as goal

pub returns-clause-ok : goal.returns-clause-ok
returns-clause-ok g c =
    both_put _ g.J.Naming.opening _ c.close_when_idle.result c.args.one c.args.two c.unwrap-first.result c.unwrap-second.result c.join-first.result.0.0 c.join-first.result.1.0 c.join-first.result.0.1 c.join-first.result.1.1
    c.push_reserved-2.new.self.items _ c.close_when_idle.ensures.whole c.requires.named.opening_is
    (search rules) (search rules) (search rules) (search rules) (search rules) (search rules)
