use Rattle.std.proofs.Common.{refl, None}
use Rattle.instances.specs.Standings.{address_in, state_with}
use Rattle.instances.proofs.Joining.{changes, plain, there}
use Rattle.instances.proofs.states.States.set.Goals as goal

pub set-requires : goal.set-requires
set-requires c = there c.self.inside.standings c.self.inside.addresses.entries c.args.self.now c.args.key c.self.view_is c.requires.there

pub returns : goal.returns
returns c =
    let addresses = c.self.inside.addresses.entries in
    changes c.self.inside.standings addresses c.args.self.now c.args.key c.self.view_is c.set.new.self addresses c.args.standing (state_with c.args.standing None) c.set.ensures (λ q apart. refl)
    (plain c.args.standing (address_in addresses c.args.key) c.requires.plain)
