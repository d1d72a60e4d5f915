use Rattle.steptree.specs.Names.{names_in}
use Rattle.graph.proofs.Written.{no_name}
use Rattle.graph.proofs.canonical_text.words.Words.put_item_name.Goals as goal

pub returns-in-None : goal.returns-in-None
returns-in-None c = no_name c.args.text.now.items (names_in c.args.self.now.graph.now.items) c.args.item.0 c.in-None.ensures
