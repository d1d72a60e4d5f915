use Rattle.std.proofs.Common.{◌∙◌, ap, sym, length}
use Rattle.std.specs.FinMap.{entries}
use Rattle.maps.specs.Keyed.{Keyed}
use Rattle.instances.specs.declared.state.State.{State}
use Rattle.instances.proofs.Joining.{as_many_joined}
use Rattle.instances.proofs.states.States.count.Goals as goal

pub returns : goal.returns
returns c = c.count.ensures ∙ sym (as_many_joined c.self.inside.standings.items c.self.inside.addresses.entries) ∙ ap (λ (s : Keyed State). length (entries s.items)) c.self.view_is
