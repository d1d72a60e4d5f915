use Rattle.std.proofs.Common.{◌∙◌, ap, sym, Some, None}
use Rattle.std.specs.FinMap.{get}
use Rattle.maps.specs.Keyed.{Keyed}
use Rattle.instances.specs.declared.state.State.{State}
use Rattle.instances.proofs.Joining.{state_joined}
use Rattle.instances.proofs.states.States.get_near.Goals as goal

pub returns-in_err-standing : goal.returns-in_err-standing
returns-in_err-standing c =
    c.from_residual.ensures ∙ state_joined c.self.inside.standings.items c.self.inside.addresses.entries c.args.key None (sym c.in_err-standing.was ∙ c.get_near.ensures) ∙ ap (λ (s : Keyed State). get s.items c.args.key) c.self.view_is

pub returns : goal.returns
returns c =
    ap Some c.state_of.ensures ∙ state_joined c.self.inside.standings.items c.self.inside.addresses.entries c.args.key (Some c.in_ok-standing.standing) (sym c.in_ok-standing.was ∙ c.get_near.ensures) ∙ ap (λ (s : Keyed State). get s.items c.args.key) c.self.view_is
