use Rattle.std.proofs.Common.{List, ℕ, sym, subst, arith}
use Rattle.std.proofs.lemmas.List.{take_rest}
use Rattle.journal.specs.Records.{StandsFor}
use Rattle.sides.proofs.FirstRecords.{gate_there, gate_closed}
use Rattle.sides.proofs.first.close_gate.Goals as goal

pub returns-then-end-bytes-clause-stands : goal.returns-then-end-bytes-clause-stands
returns-then-end-bytes-clause-stands c payloads stands =
    let there = subst (λ (list : List ℕ). StandsFor list payloads) (sym (take_rest c.args.bytes.now c.args.start)) stands in
    gate_closed c.args.bytes.now c.args.start c.first_end.result c.args.count payloads stands (c.first_end.ensures.first payloads there)

pub returns-else-end-bytes-clause-stands : goal.returns-else-end-bytes-clause-stands
returns-else-end-bytes-clause-stands c payloads stands =
    let there = subst (λ (list : List ℕ). StandsFor list payloads) (sym (take_rest c.args.bytes.now c.args.start)) stands in
    absurd (omega (
      arith,
      c.if-end-bytes.false,
      gate_there c.args.bytes.now c.args.start c.first_end.result c.args.count payloads stands (c.first_end.ensures.first payloads there) (omega (arith, c.requires)),
    ))
