use Rattle.std.proofs.Common.{◌+◌, ◌-◌, ℕ, ◌∷◌, length, drop, sym, ap, subst, arith}
use Rattle.std.proofs.lemmas.List.{take_rest, length-append, length-drop}
use Rattle.journal.specs.Records.{record_of}
use Rattle.journal.specs.WholeRecords.{BeginsWith, BeginsWithNone}
use Rattle.sides.proofs.FirstRecords.{ArePassed, one_passed, all_passed, enough_passed}
use Rattle.sides.proofs.first.first_end.Goals as goal

pub returns-in_default-clause-first : goal.returns-in_default-clause-first
returns-in_default-clause-first c payloads stands =
    all_passed c.records_lead.ensures.begins c.args.bytes.now c.args.count c.loop-left.left c.loop-left.end payloads
    (subst BeginsWithNone (take_rest c.args.bytes.now c.loop-left.end) c.in_default.ensures) (c.loop-left.invariant.passed payloads stands)

pub loop-left-preserved : goal.loop-left-preserved
loop-left-preserved c =
    let bytes = c.args.bytes.now in
    let end = c.loop-left.end in
    let left = c.loop-left.left in
    let payload = c.in-Some.payload.now in
    let law = c.records_lead.ensures in
    let begins : BeginsWith payload (drop end bytes) = subst (BeginsWith payload) (take_rest bytes end) c.in-Some.ensures in
    record {
      within = omega (arith, c.record_length.ensures, c.loop-left.invariant.within, length-drop end bytes, ap length begins.spelled, length-append (record_of payload) (begins.gate ∷ begins.rest));
      passed = λ payloads stands.
          subst (λ (count : ℕ). ArePassed bytes c.args.count (left - 1) (end + count) payloads) (sym c.record_length.ensures)
          (one_passed law.first law.begins law.one law.closed bytes payload c.args.count left end payloads (omega (arith, c.loop-left-test.true)) begins (c.loop-left.invariant.passed payloads stands));
    }

pub returns-clause-first : goal.returns-clause-first
returns-clause-first c payloads stands =
    enough_passed c.args.bytes.now c.args.count c.loop-left.left c.loop-left.end payloads (omega (arith, c.loop-left-test.false)) (c.loop-left.invariant.passed payloads stands)
