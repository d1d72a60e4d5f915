use Rattle.commit.proofs.Ran.{refused_is_absent}
use Rattle.commit.proofs.bodies.value_at.Goals as goal

pub returns-in-Err : goal.returns-in-Err
returns-in-Err c = refused_is_absent c.args.machine.now c.is_kept.ensures.fits c.args.address c.in-Err.field-0 c.in-Err.ensures.refused
