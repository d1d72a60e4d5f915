use Rattle.std.proofs.Common.{append_assoc}
use Rattle.report.proofs.report.write_counts.Goals as goal

pub returns-clause-written : goal.returns-clause-written
returns-clause-written g c = simp append_assoc c.in_ok-writeln.ensures.written
