use Rattle.std.proofs.Common.{◌∙◌, ap, subst, sym, IsSome}
use mathlib.Core.Bool.{false≢true}
use Rattle.std.specs.FinMap.{get, get-from_entries, insert}
use Rattle.maps.specs.Paged.{all_of}
use Rattle.maps.specs.PlaceOrder.{keys_total}
use Rattle.maps.proofs.Written.{put_is_insert}
use Rattle.maps.proofs.key_map.KeyMap.set.Goals as goal

pub returns-in-At : goal.returns-in-At
returns-in-At g c =
    let now = put_is_insert (all_of c.self.inside.pages.pages) (all_of c.set.new.self.pages) c.args.key c.args.value c.set.ensures.entries ∙ ap (λ s. insert s.items c.args.key c.args.value) c.self.view_is in
    let room = c.set.ensures.room ∙ ap (λ s. s.room) c.self.view_is in
    λ i. record { items = now i; room = room i }

pub returns-in-Gap : goal.returns-in-Gap
returns-in-Gap g c = absurd (false≢true (subst IsSome (ap (λ s. get s.items c.args.key) (sym c.self.view_is) ∙ get-from_entries keys_total (all_of c.self.inside.pages.pages) c.args.key ∙ c.in-Gap.ensures.absent) c.requires))

pub returns-in-Behind : goal.returns-in-Behind
returns-in-Behind g c = absurd (false≢true (subst IsSome (ap (λ s. get s.items c.args.key) (sym c.self.view_is) ∙ get-from_entries keys_total (all_of c.self.inside.pages.pages) c.args.key ∙ c.in-Behind.ensures.absent) c.requires))
