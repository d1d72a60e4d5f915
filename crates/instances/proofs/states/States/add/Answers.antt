use Rattle.std.proofs.Common.{◌<◌, sym, subst}
use Rattle.maps.specs.Keyed.{Keyed, Adds}
use Rattle.instances.specs.declared.state.State.{State}
use Rattle.instances.proofs.Changes.{when_ok}
use Rattle.instances.proofs.Joining.{absent, adds}
use Rattle.instances.proofs.Prescribing.{not_refused}
use Rattle.instances.proofs.states.States.add.Goals as goal

pub returns : goal.returns
returns c =
    let old = c.self.inside.standings in
    let addresses = c.self.inside.addresses.entries in
    let gone = absent old addresses c.args.self.now c.args.key c.self.view_is c.requires.absent in
    let room : 0 < old.room = subst (λ (s : Keyed State). 0 < s.room) (sym c.self.view_is) c.requires.room in
    let added = when_ok c.insert-added.result c.insert-added.ensures.ok (sym (not_refused _ _ c.insert-added.result gone room c.insert-added.ensures.refused)) in
    adds old addresses c.args.self.now c.args.key c.self.view_is c.insert-added.new.self c.args.is_done (subst (Adds old c.insert-added.new.self c.args.key) c.first_standing-standing.ensures added) c.requires.absent
