use Rattle.std.proofs.Common.{◌∙◌, ap, sym, map}
use Rattle.std.specs.FinMap.{entries}
use Rattle.maps.specs.Keyed.{Keyed}
use Rattle.instances.specs.declared.state.State.{State}
use Rattle.instances.specs.Standings.{stated}
use Rattle.instances.proofs.Joining.{entries_joined}
use Rattle.instances.proofs.states.States.walk.Goals as goal

pub returns : goal.returns
returns c =
    let addresses = c.self.inside.addresses.entries in
    ap (map (stated addresses)) c.walk.ensures ∙ sym (entries_joined c.self.inside.standings.items addresses) ∙ ap (λ (s : Keyed State). entries s.items) c.self.view_is
