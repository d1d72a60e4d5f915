use Rattle.std.proofs.Common.{rules}
use Rattle.disk.specs.declared.side.Side.{Side}
use Rattle.disk.specs.declared.side.Side.TheVariants.{A, B}
use Rattle.disk.specs.File.{MayLeave}
use Rattle.disk.specs.MemDisk.{files_of, fill_of}
use Rattle.disk.proofs.Chosen.{chosen_left}
use Rattle.disk.proofs.mem_disk.MemDisk.fill.Goals as goal

pub returns-clause-allowed : goal.returns-clause-allowed
returns-clause-allowed c = by
  where
    by : (side : Side) → MayLeave (files_of c.args.self.now side).durable (fill_of (record { a = c.in_ok-choose.field-0; b = c.in_ok-choose-2.field-0 }) side)
    by A = chosen_left (files_of c.args.self.now A) (c.args.self.now.reads_left A) c.args.choice c.in_ok-choose.field-0.items c.in_ok-choose.ensures.bytes (search rules)
    by B = chosen_left (files_of c.args.self.now B) (c.args.self.now.reads_left B) c.args.choice c.in_ok-choose-2.field-0.items c.in_ok-choose-2.ensures.bytes (search rules)
