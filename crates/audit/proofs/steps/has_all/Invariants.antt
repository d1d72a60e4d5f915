use Rattle.std.proofs.Common.{◌≡◌, ◌<◌, ℕ, true, Some}
use Rattle.std.specs.Prelude.{slice_get}
use Rattle.terms.specs.declared.put.Put.{Put}
use Rattle.terms.specs.Facts.{put_fact}
use Rattle.machine.specs.Machine.{facts}
use Rattle.audit.proofs.steps.has_all.Given as goal

abbrev pub invariant-loop-number : goal.invariant-loop-number
invariant-loop-number l = (number : ℕ) (put : Put) → number < l.number → slice_get l.puts number ≡ Some put → facts l.store (put_fact l.inst number put) ≡ true
