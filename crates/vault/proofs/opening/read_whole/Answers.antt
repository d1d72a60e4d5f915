use Rattle.vault.proofs.OpenedCalls.{looked, then_reads}
use Rattle.vault.proofs.opening.read_whole.Goals as goal

pub returns-in_err-count-clause-only_reads : goal.returns-in_err-count-clause-only_reads
returns-in_err-count-clause-only_reads g c honest =
    looked g.D.Disk (g.met.D.Disk.at_now honest) c.args.disk.now c.len.new.self (c.len.ensures.same honest) (c.len.ensures.time honest)

pub returns-in_err-bytes-clause-only_reads : goal.returns-in_err-bytes-clause-only_reads
returns-in_err-bytes-clause-only_reads g c honest =
    looked g.D.Disk (g.met.D.Disk.at_now honest) c.args.disk.now c.len.new.self (c.len.ensures.same honest) (c.len.ensures.time honest)

pub returns-in_err-read-clause-only_reads : goal.returns-in_err-read-clause-only_reads
returns-in_err-read-clause-only_reads g c honest =
    then_reads g.D.Disk c.args.disk.now c.len.new.self c.read.new.self
    (looked g.D.Disk (g.met.D.Disk.at_now honest) c.args.disk.now c.len.new.self (c.len.ensures.same honest) (c.len.ensures.time honest))
    (looked g.D.Disk (g.met.D.Disk.at_now honest) c.len.new.self c.read.new.self (c.read.ensures.same honest) (c.read.ensures.time honest))

pub returns-clause-only_reads : goal.returns-clause-only_reads
returns-clause-only_reads g c honest =
    then_reads g.D.Disk c.args.disk.now c.len.new.self c.read.new.self
    (looked g.D.Disk (g.met.D.Disk.at_now honest) c.args.disk.now c.len.new.self (c.len.ensures.same honest) (c.len.ensures.time honest))
    (looked g.D.Disk (g.met.D.Disk.at_now honest) c.len.new.self c.read.new.self (c.read.ensures.same honest) (c.read.ensures.time honest))
