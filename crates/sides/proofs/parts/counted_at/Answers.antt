use Rattle.std.proofs.Common.{◌≡◌, ◌+◌, ◌-◌, length, take, drop, get_or-drop, ap, ◌∙◌, arith}
use Rattle.std.proofs.lemmas.List.{take_rest}
use Rattle.byteorder.specs.Endian.{little_number}
use Rattle.sides.proofs.Counted.{counted_stands}
use Rattle.sides.proofs.parts.counted_at.Goals as goal

pub returns : goal.returns
returns c =
    let bytes = c.args.bytes.now in
    let at = c.args.at in
    let count = c.read_u32-count.result in
    let rest : take (length bytes - at) (drop at bytes) ≡ drop at bytes = take_rest bytes at in
    let counted : 4 + count - 4 ≡ count = omega arith in
    counted_stands bytes _ at count c.requires (λ k. omega (arith, get_or-drop at bytes k 0, c.type_inv.bytes (at + k))) (omega (arith, ap length rest)) c.read_u32-count.type_inv
    (c.read_u32-count.ensures ∙ ap (little_number 4) rest) (λ i. take (counted i) (drop 4 (rest i)))
