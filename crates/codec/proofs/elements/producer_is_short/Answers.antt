use Rattle.std.proofs.Common.{arith}
use Rattle.byteorder.specs.Endian.{little_bytes}
use Rattle.codec.proofs.Roomy.{behind_name}
use Rattle.codec.proofs.elements.producer_is_short.Goals as goal

pub returns-in-By : goal.returns-in-By
returns-in-By c = rw (c.in-By.is) (omega (arith, behind_name c.in-By.instance.collection.0 c.in-By.instance.key (little_bytes 4 c.in-By.field-1) c.is_short.ensures))
