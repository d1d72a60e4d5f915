use Rattle.std.proofs.Common.{◌∙◌, ap, sym}
use Rattle.std.specs.FinMap.{get, get-from_entries}
use Rattle.maps.specs.Paged.{all_of}
use Rattle.maps.specs.PlaceOrder.{keys_total}
use Rattle.maps.proofs.key_map.KeyMap.get_near.Goals as goal

pub returns : goal.returns
returns g c = c.value.ensures c.args.key c.find_near.ensures ∙ sym (get-from_entries keys_total (all_of c.self.inside.pages.pages) c.args.key) ∙ ap (λ s. get s.items c.args.key) c.self.view_is
