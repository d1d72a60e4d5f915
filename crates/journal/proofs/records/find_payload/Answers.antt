use Rattle.std.proofs.Common.{subst}
use Rattle.std.proofs.lemmas.List.{take_rest}
use Rattle.journal.specs.WholeRecords.{BeginsWith, BeginsWithNone}
use Rattle.journal.proofs.Spelling.{record_stands}
use Rattle.journal.proofs.records.find_payload.Goals as goal

pub returns-in_err-payload : goal.returns-in_err-payload
returns-in_err-payload c = rw c.from_residual.ensures (subst BeginsWithNone (take_rest c.args.bytes.now c.args.gate) c.in_err-payload.ensures)

pub returns : goal.returns
returns c =
    record_stands c.args.bytes.now c.in_ok-payload.payload.now c.args.gate c.requires (subst (BeginsWith c.in_ok-payload.payload.now) (take_rest c.args.bytes.now c.args.gate) c.in_ok-payload.ensures)
