use Rattle.script.proofs.Example.{example}
use Rattle.script.proofs.Once.{once}
use Rattle.script.proofs.law.tokens_once.Goals as goal

pub returns-clause-once : goal.returns-clause-once
returns-clause-once c = once

pub returns-clause-example : goal.returns-clause-example
returns-clause-example c = example
