use Rattle.vault.proofs.OpenedCalls.{looked, then_reads}
use Rattle.vault.proofs.creation.is_there.Goals as goal

pub returns-in_err-a-clause-only_reads : goal.returns-in_err-a-clause-only_reads
returns-in_err-a-clause-only_reads g c honest =
    looked g.D.Disk (g.met.D.Disk.at_now honest) c.args.disk.now c.len.new.self (c.len.ensures.same honest) (c.len.ensures.time honest)

pub returns-in_err-b-clause-only_reads : goal.returns-in_err-b-clause-only_reads
returns-in_err-b-clause-only_reads g c honest =
    then_reads g.D.Disk c.args.disk.now c.len.new.self c.len-2.new.self
    (looked g.D.Disk (g.met.D.Disk.at_now honest) c.args.disk.now c.len.new.self (c.len.ensures.same honest) (c.len.ensures.time honest))
    (looked g.D.Disk (g.met.D.Disk.at_now honest) c.len.new.self c.len-2.new.self (c.len-2.ensures.same honest) (c.len-2.ensures.time honest))

pub returns-then-a-ne0-clause-only_reads : goal.returns-then-a-ne0-clause-only_reads
returns-then-a-ne0-clause-only_reads g c honest =
    then_reads g.D.Disk c.args.disk.now c.len.new.self c.len-2.new.self
    (looked g.D.Disk (g.met.D.Disk.at_now honest) c.args.disk.now c.len.new.self (c.len.ensures.same honest) (c.len.ensures.time honest))
    (looked g.D.Disk (g.met.D.Disk.at_now honest) c.len.new.self c.len-2.new.self (c.len-2.ensures.same honest) (c.len-2.ensures.time honest))

pub returns-else-a-ne0-clause-only_reads : goal.returns-else-a-ne0-clause-only_reads
returns-else-a-ne0-clause-only_reads g c honest =
    then_reads g.D.Disk c.args.disk.now c.len.new.self c.len-2.new.self
    (looked g.D.Disk (g.met.D.Disk.at_now honest) c.args.disk.now c.len.new.self (c.len.ensures.same honest) (c.len.ensures.time honest))
    (looked g.D.Disk (g.met.D.Disk.at_now honest) c.len.new.self c.len-2.new.self (c.len-2.ensures.same honest) (c.len-2.ensures.time honest))
