use Rattle.std.proofs.Common.{[], drop}
use Rattle.terms.specs.Facts.{put_facts}
use Rattle.machine.specs.declared.memory.Memory.{Memory}
use Rattle.machine.specs.Memory.{AreListed}
use Rattle.machine.specs.Coming.{CanTakeAll, Grows}
use Rattle.machine.proofs.memory.Memory.put_all.Given as goal

-- what is left can be taken, and after that all is taken
abbrev pub invariant-loop-number : goal.invariant-loop-number
invariant-loop-number l =
    AreListed l.self × CanTakeAll l.self (drop l.number l.fn.puts)
    × ((new : Memory) → Grows l.self new (put_facts l.fn.instance l.number (drop l.number l.fn.puts)) [] (drop l.number l.fn.puts)
    → Grows l.initial.self new (put_facts l.fn.instance 0 l.fn.puts) [] l.fn.puts)
