use Rattle.std.proofs.Common.{length, replicate, ap, arith, length-append}
use Rattle.codec.specs.Commits.{commit_bytes}
use Rattle.vault.proofs.Short.{commit_short}
use Rattle.vault.proofs.groups.spell_record.Goals as goal

pub end_record-requires-clause-short : goal.end_record-requires-clause-short
end_record-requires-clause-short c =
    omega (
      arith,
      c.in_ok-place.ensures.place,
      commit_short c.args.group.now c.in_ok-encode_payload.ensures.in_range,
      ap length c.in_ok-place.ensures.room,
      ap length c.in_ok-encode_payload.ensures.spelled,
      length-append c.args.out.now.items (replicate 5 0),
      length-append c.begin_record.new.out.items (commit_bytes c.args.group.now),
    )
