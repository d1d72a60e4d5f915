use Rattle.std.proofs.Common.{◌∙◌, arith, rules, w64}
use Rattle.std.proofs.lemmas.Int.{to_z-of_z}
use Rattle.codec.proofs.Numbers.{value_in}
use Rattle.codec.proofs.reader.value_in.Goals as goal

pub returns : goal.returns
returns c =
    to_z-of_z w64 c.read_i64.result (search rules)
    ∙ value_in c.args.bytes.now c.read_i64.result (λ k. omega (arith, c.type_inv.bytes k)) c.read_i64.ensures
