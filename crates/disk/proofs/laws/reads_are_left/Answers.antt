use Rattle.disk.proofs.Left.{written_left, cut_left}
use Rattle.disk.proofs.Outcomes.{failure_keeps_reads}
use Rattle.disk.proofs.laws.reads_are_left.Goals as goal

pub returns-clause-write : goal.returns-clause-write
returns-clause-write c file from bytes reach are reads = written_left file.durable file.content reads from bytes reach are

pub returns-clause-cut : goal.returns-clause-cut
returns-clause-cut c file end reads = cut_left file.durable file.content reads end

pub returns-clause-failure : goal.returns-clause-failure
returns-clause-failure c = failure_keeps_reads
