use Rattle.disk.specs.declared.side.Side.TheVariants.{A, B}
use Rattle.vault.proofs.OpenedCalls.{synced, then_reads, both_synced}
use Rattle.vault.proofs.opening.settle.Goals as goal

pub returns-in_err-sync-clause-only_reads : goal.returns-in_err-sync-clause-only_reads
returns-in_err-sync-clause-only_reads g c honest =
    synced g.D.Disk (g.met.D.Disk.at_now honest) _ A c.sync.result c.args.disk.now c.sync.new.self (g.met.D.Disk.reads_left honest c.args.disk.now A)
    (c.sync.ensures.file honest) (c.sync.ensures.other honest) (c.sync.ensures.time honest)

pub returns-clause-only_reads : goal.returns-clause-only_reads
returns-clause-only_reads g c honest =
    then_reads g.D.Disk c.args.disk.now c.sync.new.self c.sync-2.new.self
    (synced g.D.Disk (g.met.D.Disk.at_now honest) _ A c.sync.result c.args.disk.now c.sync.new.self (g.met.D.Disk.reads_left honest c.args.disk.now A)
    (c.sync.ensures.file honest) (c.sync.ensures.other honest) (c.sync.ensures.time honest))
    (synced g.D.Disk (g.met.D.Disk.at_now honest) _ B c.sync-2.result c.sync.new.self c.sync-2.new.self (g.met.D.Disk.reads_left honest c.sync.new.self B)
    (c.sync-2.ensures.file honest) (c.sync-2.ensures.other honest) (c.sync-2.ensures.time honest))

pub returns-clause-rests : goal.returns-clause-rests
returns-clause-rests g c honest =
    let files = g.D.Disk.files in
    both_synced _ c.sync-2.result (files c.args.disk.now) (files c.sync.new.self) (files c.sync-2.new.self) (c.in_ok-sync.ensures.file honest) (c.sync.ensures.other honest) (c.sync-2.ensures.file honest) (c.sync-2.ensures.other honest)
