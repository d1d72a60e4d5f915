use Rattle.std.proofs.Common.{take}
use Rattle.terms.specs.declared.name.Inst.{Inst}
use Rattle.terms.specs.Facts.{put_facts}
use Rattle.machine.specs.Machine.{facts}
use Rattle.machine.specs.Marked.{MarksMore}
use Rattle.audit.specs.Replayed.{HasAll}
use Rattle.audit.proofs.marking.mark_puts.Given as goal

abbrev pub invariant-loop-put : goal.invariant-loop-put
invariant-loop-put l = (instance : Inst) → HasAll (facts l.fn.marks.store) instance l.puts → MarksMore l.fn.marks l.marks (put_facts instance 0 (take l.put-index l.puts))
