use Rattle.pool.proofs.Kept.{justified_further}
use Rattle.pool.proofs.running.finish_after.Goals as goal

pub returns-in-Err-clause-turned : goal.returns-in-Err-clause-turned
returns-in-Err-clause-turned g c = justified_further g.J.Naming.opening c.commit_before.new.pass.seen c.release-in-Err.new.pass _ c.release-in-Err.ensures.seen.0.starts c.in-Err.ensures.full
