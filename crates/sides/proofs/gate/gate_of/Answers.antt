use Rattle.std.proofs.Common.{ap, ◌∙◌, arith}
use Rattle.std.proofs.lemmas.List.{take_rest}
use Rattle.byteorder.specs.Endian.{little_number}
use Rattle.sides.proofs.Heads.{head_told}
use Rattle.sides.proofs.gate.gate_of.Goals as goal

pub returns : goal.returns
returns c =
    let head = c.args.head.now in
    head_told head c.read_u64.result (λ k. omega (arith, c.type_inv.head k)) (omega arith) (omega arith) c.read_u64.type_inv (c.read_u64.ensures ∙ ap (little_number 8) (take_rest head 2))
