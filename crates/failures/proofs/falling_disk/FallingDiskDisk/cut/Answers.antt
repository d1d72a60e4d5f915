use Rattle.std.proofs.Common.{◌∙◌, ap}
use Rattle.disk.specs.File.{cut, cut_touches}
use Rattle.failures.proofs.Refused.{refused_before}
use Rattle.failures.proofs.falling_disk.FallingDiskDisk.cut.Goals as goal

pub returns-then-falls-clause-file : goal.returns-then-falls-clause-file
returns-then-falls-clause-file g c honest =
    let file = g.D.Disk.files c.args.self.now.disk c.args.side in
    refused_before (cut c.args.count) (cut_touches c.args.count) c.refuse.result file (g.D.Disk.files c.refuse.new.self.disk c.args.side) c.refuse.ensures.refused (ap (λ disk. g.D.Disk.files disk c.args.side) (c.refuse.ensures.disk ∙ c.falls.ensures.disk))
