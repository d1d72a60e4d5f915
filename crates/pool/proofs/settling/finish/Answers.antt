use Rattle.pool.proofs.Teams.{saw_full}
use Rattle.pool.proofs.settling.finish.Goals as goal

pub returns-clause-full : goal.returns-clause-full
returns-clause-full g c met = saw_full g.J.Naming.opening c.finish.new.pass c.args.task _ c.finish.result c.finish.ensures.refused (c.settled.ensures.full met)
