use Rattle.std.proofs.Common.{arith}
use Rattle.instances.proofs.Tallied.{all_kinds}
use Rattle.instances.proofs.step_instances.StepInstances.done.Goals as goal

pub overflow_sub-result : goal.overflow_sub-result
overflow_sub-result c = omega (arith, all_kinds c.args.self.now.states, c.count.ensures, c.ready.ensures)

pub overflow_sub-result-2 : goal.overflow_sub-result-2
overflow_sub-result-2 c = omega (arith, all_kinds c.args.self.now.states, c.count.ensures, c.ready.ensures, c.running.ensures)

pub overflow_sub-result-3 : goal.overflow_sub-result-3
overflow_sub-result-3 c = omega (arith, all_kinds c.args.self.now.states, c.count.ensures, c.ready.ensures, c.running.ensures, c.waiting.ensures)

pub returns : goal.returns
returns c = omega (arith, all_kinds c.args.self.now.states, c.count.ensures, c.ready.ensures, c.running.ensures, c.waiting.ensures)
