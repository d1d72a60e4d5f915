use Rattle.disk.proofs.Outcomes.{failure_leaves_more}
use Rattle.disk.proofs.laws.failure_leaves.Goals as goal

pub returns-clause-before : goal.returns-clause-before
returns-clause-before c = failure_leaves_more
