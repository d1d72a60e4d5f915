use Rattle.std.proofs.Common.{refl, None}
use Rattle.instances.specs.declared.standing.Standing.TheVariants as stands
use Rattle.instances.specs.declared.state.State.TheVariants.{Ready}
use Rattle.instances.proofs.Joining.{changes, other_addresses, there}
use Rattle.instances.proofs.states.States.wake.Goals as goal

pub set-requires : goal.set-requires
set-requires c = there c.self.inside.standings c.self.inside.addresses.entries c.args.self.now c.args.key c.self.view_is c.requires

pub returns : goal.returns
returns c =
    let old = c.self.inside.addresses.entries in
    let new = c.remove-address.new.self.entries in
    changes c.self.inside.standings old c.args.self.now c.args.key c.self.view_is c.set.new.self new stands.Ready Ready c.set.ensures (other_addresses old new c.args.key None c.remove-address.ensures.updates.0) refl
