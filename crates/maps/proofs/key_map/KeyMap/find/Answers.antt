use Rattle.std.proofs.Common.{◌∙◌, ◌<◌, ◌^◌, ap, sym, subst, length}
use Rattle.std.specs.FinMap.{entries, get, get-from_entries}
use Rattle.maps.specs.Paged.{all_of}
use Rattle.maps.specs.PlaceOrder.{keys_total}
use Rattle.maps.proofs.Written.{entries_listed}
use Rattle.maps.proofs.key_map.KeyMap.find.Goals as goal

pub returns-clause-value : goal.returns-clause-value
returns-clause-value g c = c.value.ensures c.args.key.now c.find.ensures.found ∙ sym (get-from_entries keys_total (all_of c.self.inside.pages.pages) c.args.key.now) ∙ ap (λ s. get s.items c.args.key.now) c.self.view_is

pub returns-clause-cost : goal.returns-clause-cost
returns-clause-cost g c = λ digits few.
    let same = sym (ap (λ s. length (entries s.items)) c.self.view_is) ∙ ap length (entries_listed (all_of c.self.inside.pages.pages) c.find.ensures.sorted) in
    c.find.ensures.cost digits (subst (λ n. n < 2 ^ digits) same few)
