use Rattle.machine.specs.Machine.{facts}
use Rattle.machine.proofs.PutsInTurn.{is_fresh, may_follow}
use Rattle.machine.proofs.machine.Machine.may_follow.Goals as goal

pub returns-then-is_repeated : goal.returns-then-is_repeated
returns-then-is_repeated c legal =
    is_fresh c.facts_are_told_apart.ensures.one c.args.self.now.graph (facts c.args.self.now) c.args.before.now c.requires.before c.args.put.now c.requires.put legal c.if-is_repeated.ensures

pub returns : goal.returns
returns c =
    may_follow c.facts_are_told_apart.ensures.one c.args.self.now.graph (facts c.args.self.now) c.args.before.now c.requires.before c.args.put.now c.requires.put c.if-is_repeated.ensures c.may_put.result c.may_put.ensures
