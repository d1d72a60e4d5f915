use Rattle.std.proofs.Common.{◌∙◌}
use Rattle.std.specs.String.{string_bytes}
use Rattle.graph.proofs.Texts.{position_of_name}
use Rattle.graph.proofs.numbered.Numbered.number.Goals as goal

pub returns-clause-number : goal.returns-clause-number
returns-clause-number g c = rw (← c.self.view_is) (c.get_index_of.ensures.index ∙ position_of_name string_bytes c.self.inside.entries.entries c.args.name.now)
