use Rattle.std.proofs.Common.{subst, IfOk}
use Rattle.maps.specs.Marked.{AreUnmarked}
use Rattle.maps.proofs.key_map.KeyMap.marks.Goals as goal

pub returns : goal.returns
returns g c = subst (λ s. IfOk c.new.result (AreUnmarked s.items)) c.self.view_is c.new.ensures
