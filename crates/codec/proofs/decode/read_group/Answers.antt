use Rattle.std.proofs.Common.{◌≡◌, ◌++◌, ◌∷◌, [], inl, inr, arith}
use Rattle.std.proofs.lemmas.Result.{err_from_is_err_and}
use Rattle.codec.specs.Reading.{several, event}
use Rattle.codec.proofs.Several.{one_more, fault_comes}
use Rattle.codec.proofs.CommitLaws.{group_read}
use Rattle.codec.proofs.decode.read_group.Goals as goal

pub returns-in_err-read_event : goal.returns-in_err-read_event
returns-in_err-read_event c =
    let p = err_from_is_err_and c.from_residual-in_err-read_event.result c.from_residual-in_err-read_event.ensures.1 in
    let most = c.args.most in
    let count = c.in_ok-count.count in
    rw (p.1, p.2) (elim c.in_err-read_event.ensures [
      | inl refused ↦ inl (cc)
      | inr read ↦ inr (group_read most c.args.reader.now.rest.now c.two_bytes.new.self.rest.now count _ c.in_ok-count.ensures (omega arith) (omega arith)
          (fault_comes (event most) c.loop.events.items count c.loop.counter c.loop.reader.rest.now _ (several count (event most) c.two_bytes.new.self.rest.now) c.loop-test.true read c.loop.invariant))
    ])

pub loop-preserved : goal.loop-preserved
loop-preserved c =
    let pushed : c.push.new.self.items ≡ c.loop.events.items ++ c.in_ok-read_event.field-0 ∷ [] = c.in_ok-push.ensures.items in
    elim c.in_ok-read_event.ensures [
      | inl refused ↦ absurd (cc)
      | inr read ↦ rw pushed (one_more (event c.args.most) c.loop.events.items c.in_ok-count.count c.loop.counter c.loop.reader.rest.now c.in_ok-read_event.field-0 c.read_event.new.reader.rest.now _
          c.loop-test.true read c.loop.invariant)
    ]
