-- A run over the items that are marked.
use Rattle.std.proofs.Common.{◌≡◌, ℤ, Option}
use Rattle.steplang.specs.Running.{Running, IsDue, reads_with}
use Rattle.machine.specs.Marked.{Marks, marked}
use Rattle.machine.specs.Results.{AreItems}

-- the run goes on with this answer, and all that it has read then is marked
pub record GoesOn (m : Marks) (first run : Running) (answer : Option ℤ) : Type 0 where
  pub due : IsDue run.awaits answer
  pub checked : run.checked ≡ first.checked
  pub instance : run.instance ≡ first.instance
  pub read : AreItems (marked m) (reads_with run.reads run.awaits answer)
