use Rattle.std.proofs.Common.{inl, refl}
use Rattle.cli.proofs.LogTold.{stand_for}
use Rattle.cli.proofs.logging.log_side.Goals as goal

pub returns-in-Ok : goal.returns-in-Ok
returns-in-Ok g c = inl (refl, λ read. c.in-Ok.ensures.written read.is_side.commits (stand_for c.sides_go_on.ensures.journal c.args.live read c.deref.result.now c.deref.ensures.value))
