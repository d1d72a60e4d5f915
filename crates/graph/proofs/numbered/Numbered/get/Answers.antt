use Rattle.std.proofs.Common.{◌∙◌}
use Rattle.std.specs.String.{string_bytes}
use Rattle.graph.proofs.Texts.{looked_up}
use Rattle.graph.proofs.numbered.Numbered.get.Goals as goal

pub returns : goal.returns
returns g c = rw (← c.self.view_is) (c.get.ensures.value ∙ looked_up string_bytes c.self.inside.entries.entries c.args.name.now)
