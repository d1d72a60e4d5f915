use Rattle.std.proofs.Common.{drop, ◌*◌, ◌^◌}
use Rattle.machine.specs.Group.{puts_of_all}
use Rattle.machine.specs.Tally.{AreAsMany, IsUpTo}
use Rattle.machine.proofs.Tallied.{IsOnTheWay}
use Rattle.machine.proofs.tally.Tally.count_all.Given as goal

abbrev pub invariant-loop-number : goal.invariant-loop-number
invariant-loop-number l =
    AreAsMany l.initial.self l.self × IsOnTheWay l.initial.self l.self (puts_of_all (drop l.number l.fn.events)) (puts_of_all l.fn.events) × IsUpTo (l.number * 2 ^ 64) l.self
