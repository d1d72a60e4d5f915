use Rattle.std.proofs.Common.{◌∙◌, ap, sym}
use Rattle.std.specs.FinMap.{entries}
use Rattle.maps.proofs.Written.{entries_listed}
use Rattle.maps.proofs.key_map.KeyMap.walk.Goals as goal

pub returns : goal.returns
returns g c = c.walk.ensures.walk ∙ sym (entries_listed _ c.walk.ensures.sorted) ∙ ap (λ s. entries s.items) c.self.view_is
