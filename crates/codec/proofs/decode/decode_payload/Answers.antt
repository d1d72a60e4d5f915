use Rattle.std.proofs.Common.{arith}
use Rattle.codec.specs.Commits.{IsCommit, commit_bytes}
use Rattle.codec.specs.Reading.{payload}
use Rattle.codec.proofs.CommitLaws.{payload_agrees}
use Rattle.codec.proofs.WholeLaws.{reads_back}
use Rattle.codec.proofs.Encodable.{spelled_where_done, encodable_where_done}
use Rattle.codec.proofs.decode.decode_payload.Goals as goal

pub returns-clause-spelled : goal.returns-clause-spelled
returns-clause-spelled c =
    let most = c.args.most in
    spelled_where_done (IsCommit most) commit_bytes (payload most) (reads_back (IsCommit most) commit_bytes (payload most) (payload_agrees most c.requires)) c.args.bytes.now c.read_payload.new.reader.rest.now
    c.read_payload.new.events.items c.end.result (λ k. omega (arith, c.type_inv.bytes k)) c.in_ok-read_payload.ensures c.end.ensures

pub returns-clause-encodable : goal.returns-clause-encodable
returns-clause-encodable c = encodable_where_done c.args.most c.args.bytes.now c.read_payload.new.events.items c.end.result (returns-clause-spelled c)
