-- Reads of items that are there.
use Rattle.std.proofs.Common.{[], ◌∷◌}
use Rattle.terms.specs.Facts.{item}
use Rattle.machine.specs.Results.{ReadsStay}

pub reads_stay : ReadsStay
reads_stay X Y [] more all = tt
reads_stay X Y (read ∷ reads) more all = ((all.0.0, more (item read.0 read.1 all.0.0) all.0.1), reads_stay X Y reads more all.1)
