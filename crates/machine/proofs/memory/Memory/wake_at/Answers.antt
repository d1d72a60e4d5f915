use Rattle.std.proofs.Common.{◌∙◌, sym, subst, refl}
use Rattle.machine.specs.declared.memory.Memory.{Memory}
use Rattle.machine.specs.Waking.{EachWaits, Wakes}
use Rattle.machine.proofs.Awake.{awakens_one}
use Rattle.machine.proofs.Putting.{each_waits}
use Rattle.machine.proofs.memory.Memory.wake_at.Goals as goal

pub wake_all-requires : goal.wake_all-requires
wake_all-requires c =
    subst (EachWaits c.args.self.now.instances) (sym (c.deref.ensures.value ∙ c.take_waiters-waiters.ensures.waiters))
    (each_waits c.orders_are_total.ensures.instances c.orders_are_total.ensures.instances_tie c.args.self.now c.args.addr c.requires)

pub returns : goal.returns
returns c =
    let old = c.args.self.now in
    let new : Memory = record { items = c.take_waiters-waiters.new.self; instances = c.wake_all.new.instances; fault = old.fault } in
    awakens_one old new c.args.addr c.requires c.take_waiters-waiters.ensures.taken
    (subst (Wakes old.instances c.wake_all.new.instances) (c.deref.ensures.value ∙ c.take_waiters-waiters.ensures.waiters) c.wake_all.ensures) refl
