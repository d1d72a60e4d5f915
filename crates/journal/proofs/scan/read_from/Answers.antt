use Rattle.journal.proofs.Reading.{read_once, read_twice}
use Rattle.journal.proofs.scan.read_from.Goals as goal

pub returns-in_err-end-clause-kept : goal.returns-in_err-end-clause-kept
returns-in_err-end-clause-kept g c honest = read_once g.D.Disk (g.met.D.Disk.at_now honest) c.args.disk.now c.len.new.self (c.len.ensures.time honest) (c.len.ensures.same honest)

pub returns-then-end-at-clause-kept : goal.returns-then-end-at-clause-kept
returns-then-end-at-clause-kept g c honest = read_once g.D.Disk (g.met.D.Disk.at_now honest) c.args.disk.now c.len.new.self (c.len.ensures.time honest) (c.len.ensures.same honest)

pub returns-in_err-bytes-clause-kept : goal.returns-in_err-bytes-clause-kept
returns-in_err-bytes-clause-kept g c honest = read_once g.D.Disk (g.met.D.Disk.at_now honest) c.args.disk.now c.len.new.self (c.len.ensures.time honest) (c.len.ensures.same honest)

pub returns-in_err-read-clause-kept : goal.returns-in_err-read-clause-kept
returns-in_err-read-clause-kept g c honest =
    read_twice g.D.Disk (g.met.D.Disk.at_now honest) c.args.disk.now c.len.new.self c.read.new.self (c.len.ensures.time honest) (c.len.ensures.same honest) (c.read.ensures.time honest) (c.read.ensures.same honest)

pub returns-clause-kept : goal.returns-clause-kept
returns-clause-kept g c honest =
    read_twice g.D.Disk (g.met.D.Disk.at_now honest) c.args.disk.now c.len.new.self c.read.new.self (c.len.ensures.time honest) (c.len.ensures.same honest) (c.read.ensures.time honest) (c.read.ensures.same honest)
