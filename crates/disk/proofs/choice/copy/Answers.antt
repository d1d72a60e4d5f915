use Rattle.std.proofs.Common.{◌≡◌, IfOk, rules}
use Rattle.disk.proofs.Chosen.{bytes_of_same}
use Rattle.disk.proofs.Left.{bytes_from_fits}
use Rattle.disk.proofs.choice.copy.Goals as goal

pub returns-clause-bytes : goal.returns-clause-bytes
returns-clause-bytes c =
    let same : IfOk c.to_vec.result (λ copy. copy.items ≡ c.args.bytes.now) = search rules in
    bytes_of_same c.to_vec.result c.args.bytes.now (bytes_from_fits c.args.bytes.now c.type_inv.bytes) same
