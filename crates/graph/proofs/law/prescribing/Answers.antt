use Rattle.graph.proofs.PrescribedSteps.{prescribes_listed}
use Rattle.graph.proofs.law.prescribing.Goals as goal

pub returns : goal.returns
returns c = prescribes_listed
