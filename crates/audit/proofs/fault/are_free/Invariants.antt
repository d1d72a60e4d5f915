use Rattle.std.proofs.Common.{◌≡◌, ◌<◌, ℕ, Some}
use Rattle.std.specs.Prelude.{slice_get}
use Rattle.terms.specs.declared.put.Put.{Put}
use Rattle.machine.specs.Marked.{marked}
use Rattle.audit.specs.Free.{IsFree}
use Rattle.audit.proofs.fault.are_free.Given as goal

abbrev pub invariant-loop-number : goal.invariant-loop-number
invariant-loop-number l = (number : ℕ) (one : Put) → number < l.number → slice_get l.puts number ≡ Some one → IsFree (marked l.marks) one
