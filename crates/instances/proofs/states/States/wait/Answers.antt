use Rattle.std.proofs.Common.{ap, Some}
use Rattle.instances.specs.declared.standing.Standing.TheVariants as stands
use Rattle.instances.specs.declared.state.State.TheVariants.{Waiting}
use Rattle.instances.specs.Standings.{state_with}
use Rattle.instances.proofs.Joining.{changes, other_addresses, there}
use Rattle.instances.proofs.states.States.wait.Goals as goal

pub set-requires : goal.set-requires
set-requires c = there c.self.inside.standings c.self.inside.addresses.entries c.args.self.now c.args.key c.self.view_is c.requires

pub returns-clause-ok : goal.returns-clause-ok
returns-clause-ok c =
    let old = c.self.inside.addresses.entries in
    let new = c.insert.new.self.entries in
    let updates = c.in_ok-insert.ensures.updates in
    changes c.self.inside.standings old c.args.self.now c.args.key c.self.view_is c.set.new.self new stands.Waiting (Waiting c.args.addr) c.set.ensures (other_addresses old new c.args.key (Some c.args.addr) updates.0)
    (ap (state_with stands.Waiting) updates.1)
