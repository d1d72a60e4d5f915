use Rattle.std.proofs.Common.{refl}
use Rattle.graph.proofs.Written.{letters_put}
use Rattle.graph.proofs.canonical_text.declarations.put_component_names.Goals as goal

pub returns : goal.returns
returns c = letters_put _ _ c.min-count.result c.put.result c.args.text.now.items c.put.new.text.items c.args.components c.put.ensures c.min-count.ensures refl
