use Rattle.vault.proofs.GatesMoments.{look_kept, looks_kept}
use Rattle.vault.proofs.gates.is_shut.Goals as goal

pub returns-in_err-len-clause-kept : goal.returns-in_err-len-clause-kept
returns-in_err-len-clause-kept g c honest = look_kept g.D.Disk (g.met.D.Disk.at_now honest) c.args.disk.now c.len.new.self (c.len.ensures.same honest) (c.len.ensures.time honest)

pub returns-then-branch-eq0-clause-kept : goal.returns-then-branch-eq0-clause-kept
returns-then-branch-eq0-clause-kept g c honest = look_kept g.D.Disk (g.met.D.Disk.at_now honest) c.args.disk.now c.len.new.self (c.len.ensures.same honest) (c.len.ensures.time honest)

pub returns-in_err-read-clause-kept : goal.returns-in_err-read-clause-kept
returns-in_err-read-clause-kept g c honest =
    looks_kept g.D.Disk (g.met.D.Disk.at_now honest) c.args.disk.now c.len.new.self c.read.new.self
    (c.len.ensures.same honest) (c.read.ensures.same honest) (c.len.ensures.time honest) (c.read.ensures.time honest)

pub returns-clause-kept : goal.returns-clause-kept
returns-clause-kept g c honest =
    looks_kept g.D.Disk (g.met.D.Disk.at_now honest) c.args.disk.now c.len.new.self c.read.new.self
    (c.len.ensures.same honest) (c.read.ensures.same honest) (c.len.ensures.time honest) (c.read.ensures.time honest)
