-- How the end of the first of several claimed instances is taken.
use Rattle.std.specs.Prelude.{◌≡◌, ◌+◌, ◌≤◌, List, drop}
use Rattle.terms.specs.declared.name.Inst.{Inst}
use Rattle.terms.specs.declared.event.Event.{Event}
use Rattle.machine.specs.Group.{AreRunning}
use Rattle.machine.specs.Machine.{Machine, Takes, running_count}

-- the event is taken; the instances behind the first one are left, and still run; at least one fewer runs
pub record TakesFirst (old : Machine) (instances : List Inst) (event : Event) (new : Machine) (left : List Inst) : Type 0 where
  pub takes : Takes old new event
  pub rest : left ≡ drop 1 instances
  pub running : AreRunning new left
  pub counted : running_count new + 1 ≤ running_count old
