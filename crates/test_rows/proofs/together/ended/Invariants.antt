use Rattle.std.proofs.Common.{◌≡◌, IfSome}
use Rattle.commit.specs.Batch.{AreOutcomesOf}
use Rattle.commit.specs.Core.{graph}
use Rattle.test_rows.proofs.together.ended.Given as goal

abbrev pub invariant-loop : goal.invariant-loop
invariant-loop l = (graph l.core ≡ graph l.fn.core) × IfSome l.kept (AreOutcomesOf l.core)
