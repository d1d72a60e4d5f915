use Rattle.std.proofs.Common.{◌-◌, ℕ, List, ◌++◌, length, take, drop, ap, ◌∙◌}
use Rattle.byteorder.specs.Endian.{little_bytes}
use Rattle.sides.proofs.Spelled.{written_over}
use Rattle.sides.proofs.spelling.write_count.Goals as goal

pub returns : goal.returns
returns c =
    let bytes = c.args.bytes.now in
    let at = c.args.at in
    ap (λ (written : List ℕ). take at bytes ++ (written ++ drop (length bytes - at) (drop at bytes))) c.write_u32.ensures ∙ written_over bytes (little_bytes 4 c.args.count) at 4
