use Rattle.machine.proofs.Fit.{given_are_of}
use Rattle.machine.proofs.keeping.given_are_of_graph.Goals as goal

pub returns : goal.returns
returns c g X instance puts is gives = (given_are_of c.keeps_to_its_sheet.ensures g is X instance puts gives, c.ends_within_limits.ensures.puts gives.step.body instance.key gives.means.reads puts gives.means.along)
