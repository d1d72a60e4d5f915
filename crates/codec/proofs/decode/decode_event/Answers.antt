use Rattle.std.proofs.Common.{arith, sym}
use Rattle.codec.specs.Spelling.{IsEvent, event_bytes}
use Rattle.codec.specs.Reading.{event}
use Rattle.codec.proofs.EventLaws.{event_agrees}
use Rattle.codec.proofs.WholeLaws.{reads_back, nothing_left}
use Rattle.codec.proofs.Encodable.{is_spelled, few_puts}
use Rattle.codec.proofs.decode.decode_event.Goals as goal

pub returns-clause-spelled : goal.returns-clause-spelled
returns-clause-spelled c =
    let most = c.args.most in
    is_spelled (IsEvent most) event_bytes (event most) (reads_back (IsEvent most) event_bytes (event most) (event_agrees most c.requires)) c.args.bytes.now c.read_event.new.reader.rest.now c.in_ok-event.event
    (λ k. omega (arith, c.type_inv.bytes k)) c.in_ok-event.ensures (nothing_left tt tt c.read_event.new.reader.rest.now (sym c.in_ok-end.ensures)).1

pub returns-clause-encodable : goal.returns-clause-encodable
returns-clause-encodable c = few_puts c.args.most c.in_ok-event.event (returns-clause-spelled c).0
