use Rattle.std.proofs.Common.{arith}
use Rattle.std.proofs.lemmas.Grind.{common_steps}
use Rattle.graph.proofs.Written.{one_level_more}
use Rattle.graph.proofs.canonical_text.pieces.put_indentation.Goals as goal

pub loop-level-preserved : goal.loop-level-preserved
loop-level-preserved c = grind (arith, common_steps, one_level_more)
