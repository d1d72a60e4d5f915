use Rattle.std.proofs.Common.{arith, rules}
use Rattle.codec.proofs.Numbers.{value_read}
use Rattle.codec.proofs.reader.Reader.value.Goals as goal

pub returns : goal.returns
returns c = value_read c.args.self.now.rest.now c.value_in.result (omega arith) (search rules) c.value_in.ensures
