use Rattle.moves.proofs.Orders.{acknowledged_there, forgets, made_stays}
use Rattle.moves.proofs.acknowledged.acknowledged_stays.Goals as goal

pub returns-clause-made : goal.returns-clause-made
returns-clause-made g c = made_stays _

pub returns-clause-acknowledged : goal.returns-clause-acknowledged
returns-clause-acknowledged g c = acknowledged_there _

pub returns-clause-example : goal.returns-clause-example
returns-clause-example g c = forgets _
