use Rattle.std.proofs.Common.{arith}
use Rattle.codec.proofs.Roomy.{components_long}
use Rattle.codec.proofs.filling.fill_name.Goals as goal

pub returns-clause-short : goal.returns-clause-short
returns-clause-short c = omega (arith, c.components-components.ensures.few, c.fill_components.ensures.end_is, c.fill_bytes-place.ensures.end_is, c.fill_two_bytes-place.ensures.end_is, components_long c.components-components.result.now)
