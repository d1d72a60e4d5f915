use Rattle.syntax.proofs.WithoutFault.{not_refused}
use Rattle.syntax.proofs.law.read_without_fault.Goals as goal

pub returns : goal.returns
returns c = λ text tree fault read cause. not_refused c.tokens_once.ensures.once text tree fault.error fault.place read cause
