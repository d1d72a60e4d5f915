use Rattle.syntax.proofs.Once.{example, once}
use Rattle.syntax.proofs.law.tokens_once.Goals as goal

pub returns-clause-once : goal.returns-clause-once
returns-clause-once c bytes one two x y = once one two 0 bytes x y

pub returns-clause-example : goal.returns-clause-example
returns-clause-example c = example
