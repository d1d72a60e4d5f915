use Rattle.machine.proofs.GivenBack.{all_given_back, given_back_on}
use Rattle.machine.proofs.machine.Machine.release_all.Goals as goal

pub loop-task-preserved : goal.loop-task-preserved
loop-task-preserved c =
    given_back_on c.orders_are_total.ensures.instances c.orders_are_total.ensures.instances_tie c.args.self.now c.args.tasks c.loop-task.self c.release.new.self c.loop-task.tasks c.take_first.new.self c.in-Some.task
    c.in-Some.ensures c.loop-task.invariant c.release.ensures

pub returns : goal.returns
returns c =
    let all = all_given_back c.args.self.now c.loop-task.self c.args.tasks c.loop-task.tasks c.in_default.ensures.0 c.loop-task.invariant in
    record { back = all.0; counted = all.1 }
