use Rattle.std.proofs.Common.{◌≡◌, ◌∷◌}
use Rattle.machine.proofs.StillRunning.{ends_first, first_taken, in_front}
use Rattle.machine.proofs.machine.Machine.take_first_end.Goals as goal

pub returns : goal.returns
returns c =
    let tasks = c.args.tasks.now in
    let left = c.take_first.new.self in
    let task = c.unwrap-task.result in
    let is : tasks ≡ task ∷ left = in_front c.take_first.result task tasks left c.unwrap-task.ensures c.take_first.ensures in
    first_taken c.orders_are_total.ensures.instances c.orders_are_total.ensures.instances_tie c.runs_are_counted.ensures.one_less c.run_in_turn.ensures c.args.self.now c.take_step.new.self tasks left task
    c.args.end.now is (ends_first c.args.end.now tasks left task is c.requires.ended) c.requires.running c.take_step.ensures
