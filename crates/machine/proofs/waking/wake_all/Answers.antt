use Rattle.std.proofs.Common.{◌≡◌, ◌<◌, ◌-◌, subst, suc, take, length, arith}
use Rattle.instances.specs.Known.{Known}
use Rattle.machine.specs.Waking.{EachWaits, Wakes}
use Rattle.machine.proofs.Woken.{wakes_none, last_waits, wakes_more, still_wait}
use Rattle.machine.proofs.waking.wake_all.Goals as goal

pub wake-requires : goal.wake-requires
wake-requires c =
    let ws = c.args.waiters.now in
    let k = c.loop-number.number - 1 in
    let all : c.loop-number.number ≡ suc k = omega (arith, c.loop-number-test.true) in
    let within : k < length ws = omega (arith, c.loop-number-test.true, c.loop-number.auto.number) in
    (last_waits c.orders_are_total.ensures.instances c.orders_are_total.ensures.instances_tie c.loop-number.instances k ws c.index-waiters-number.result within c.index-waiters-number.is
    (subst (λ n. EachWaits c.loop-number.instances (take n ws)) all c.loop-number.invariant.0)).0

pub loop-number-preserved : goal.loop-number-preserved
loop-number-preserved c =
    let ws = c.args.waiters.now in
    let k = c.loop-number.number - 1 in
    let last = c.index-waiters-number.result in
    let total = c.orders_are_total.ensures.instances in
    let tie = c.orders_are_total.ensures.instances_tie in
    let all : c.loop-number.number ≡ suc k = omega (arith, c.loop-number-test.true) in
    let within : k < length ws = omega (arith, c.loop-number-test.true, c.loop-number.auto.number) in
    let kept =
    subst (λ n. EachWaits c.loop-number.instances (take n ws) × ((new : Known) → Wakes c.loop-number.instances new (take n ws) → Wakes c.args.instances.now new ws)) all c.loop-number.invariant in
    let waits = last_waits total tie c.loop-number.instances k ws last within c.index-waiters-number.is kept.0 in (
      still_wait total tie c.loop-number.instances c.wake.new.self last (take k ws) c.wake.ensures waits.1 waits.2,
      λ new wakes. kept.1 new (wakes_more total tie c.loop-number.instances c.wake.new.self new k ws last within c.index-waiters-number.is waits.0 c.wake.ensures wakes),
    )

pub returns : goal.returns
returns c =
    let none : 0 ≡ c.loop-number.number = omega (arith, c.loop-number-test.false) in
    c.loop-number.invariant.1 c.loop-number.instances (subst (λ n. Wakes c.loop-number.instances c.loop-number.instances (take n c.args.waiters.now)) none (wakes_none c.loop-number.instances))
