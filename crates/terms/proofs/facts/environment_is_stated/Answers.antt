use Rattle.terms.proofs.Stated.{of_all}
use Rattle.terms.proofs.facts.environment_is_stated.Goals as goal

pub returns : goal.returns
returns c = of_all
