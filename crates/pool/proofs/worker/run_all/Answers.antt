use Rattle.pool.proofs.Kept.{justified_further}
use Rattle.pool.proofs.worker.run_all.Goals as goal

pub returns-clause-full : goal.returns-clause-full
returns-clause-full g c = justified_further g.J.Naming.opening c.take_turns-met.new.pass.seen c.give_back.new.pass _ c.give_back.ensures.ahead c.take_turns-met.ensures.full
