use Rattle.syntax.proofs.Fronts.{number_of}
use Rattle.syntax.proofs.numbers.number.Goals as goal

pub returns : goal.returns
returns c = number_of c.args.digits.now c.parse.result c.ok.result c.parse.ensures.value.0 c.requires.digits c.requires.some c.ok.ensures.value
