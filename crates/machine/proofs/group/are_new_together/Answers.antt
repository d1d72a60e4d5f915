use Rattle.machine.specs.Group.{puts_of_all}
use Rattle.machine.proofs.NewTogether.{told_new}
use Rattle.machine.proofs.group.are_new_together.Goals as goal

pub returns-clause-new : goal.returns-clause-new
returns-clause-new c =
    told_new c.args.items.now (puts_of_all c.args.ends.now) c.all_differ.result c.gather_all.new.addresses.items c.in_ok-gather_all.ensures.gathered c.if-not-are_all_absent.ensures c.all_differ.ensures.distinct
