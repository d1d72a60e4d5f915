use Rattle.std.proofs.Common.{◌∙◌, ap, sym, length}
use Rattle.std.specs.FinMap.{entries}
use Rattle.maps.proofs.Written.{entries_listed}
use Rattle.maps.proofs.key_map.KeyMap.count.Goals as goal

pub returns : goal.returns
returns g c = c.count.ensures.count ∙ sym (ap length (entries_listed _ c.count.ensures.sorted)) ∙ ap (λ s. length (entries s.items)) c.self.view_is
