use Rattle.steptree.specs.Bodies.{Gives, Faults}
use Rattle.steptree.proofs.Within.{bodies}
use Rattle.steptree.proofs.Spent as spent
use Rattle.steptree.proofs.laws.ends_within_limits.Goals as goal

pub returns-clause-reads : goal.returns-clause-reads
returns-clause-reads c = spent.bodies

pub returns-clause-puts : goal.returns-clause-puts
returns-clause-puts c body key reads puts along = bodies body key reads (Gives puts) along

pub returns-clause-fault : goal.returns-clause-fault
returns-clause-fault c body key reads kind along = bodies body key reads (Faults kind) along
