use Rattle.std.proofs.Common.{◌≡◌, ◌+◌, ◌-◌, ℕ, take, drop, ap, subst, sym, ◌∙◌, arith}
use Rattle.std.proofs.lemmas.List.{take_rest}
use Rattle.byteorder.specs.Endian.{little_number}
use Rattle.journal.specs.WholeRecords.{BeginsWith}
use Rattle.journal.proofs.Spelling.{first_stands}
use Rattle.journal.proofs.records.first_payload.Goals as goal

pub returns : goal.returns
returns c =
    let bytes = c.args.bytes.now in
    let count = c.read_u32-count.result in
    let counted : 5 + count - 5 ≡ count = omega arith in
    subst (λ (n : ℕ). BeginsWith (take n (drop 5 bytes)) bytes) (sym counted)
    (first_stands bytes count (λ k. omega (arith, c.type_inv.bytes k)) (omega arith) c.read_u32-count.type_inv (omega arith) (c.read_u32-count.ensures ∙ ap (little_number 4) (take_rest bytes 1)))
