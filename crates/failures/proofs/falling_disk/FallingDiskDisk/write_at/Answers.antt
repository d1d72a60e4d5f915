use Rattle.std.proofs.Common.{◌∙◌, ap, length}
use Rattle.disk.specs.File.{write_touches, written}
use Rattle.failures.proofs.Refused.{refused_before}
use Rattle.failures.proofs.falling_disk.FallingDiskDisk.write_at.Goals as goal

pub returns-then-falls-clause-file : goal.returns-then-falls-clause-file
returns-then-falls-clause-file g c honest =
    let file = g.D.Disk.files c.args.self.now.disk c.args.side in
    refused_before (written c.args.at c.args.bytes.now) (write_touches file.durable c.args.at (length c.args.bytes.now)) c.refuse.result file (g.D.Disk.files c.refuse.new.self.disk c.args.side) c.refuse.ensures.refused (ap (λ disk. g.D.Disk.files disk c.args.side) (c.refuse.ensures.disk ∙ c.falls.ensures.disk))
