use Rattle.std.proofs.Common.{ap, arith, length}
use Rattle.codec.proofs.Roomy.{components_long}
use Rattle.codec.proofs.lengths.name_length.Goals as goal

pub returns-clause-length : goal.returns-clause-length
returns-clause-length c = omega (arith, components_long c.args.key.now, ap length c.components-components.ensures.components)
