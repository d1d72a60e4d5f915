use Rattle.std.proofs.Common.{◌≡◌, ◌+◌, sym, subst, suc, List, drop, arith}
use Rattle.terms.specs.declared.put.Put.{Put}
use Rattle.graph.specs.Fits.{addresses}
use Rattle.machine.specs.declared.memory.Memory.{Memory}
use Rattle.machine.specs.Memory.{AreListed}
use Rattle.machine.specs.Waking.{Awakens}
use Rattle.machine.proofs.Awake.{awakens_none, awakens_put}
use Rattle.machine.proofs.Woken.{left_at, left_none}
use Rattle.machine.proofs.memory.Memory.wake_for.Goals as goal

pub loop-place-preserved : goal.loop-place-preserved
loop-place-preserved c =
    let now = c.loop-place.self in
    let puts = c.args.puts.now in
    let n = c.loop-place.place in
    let one = c.index-puts-place.result in
    let rest : List Put = drop (suc n) puts in
    let left = left_at n puts one (omega (arith, c.loop-place-test.true)) c.index-puts-place.is in
    let next : suc n ≡ n + 1 = omega arith in
    subst (λ m. AreListed c.wake_by.new.self × ((new : Memory) → Awakens c.wake_by.new.self new (addresses (drop m puts)) → Awakens c.args.self.now new (addresses puts))) next (
      c.wake_by.ensures.listed,
      λ new more. c.loop-place.invariant.1 new (subst (λ (l : List Put). Awakens now new (addresses l)) (sym left) (awakens_put now c.wake_by.new.self new one rest c.wake_by.ensures more)),
    )

pub returns : goal.returns
returns c =
    let none = left_none c.loop-place.place c.args.puts.now (omega (arith, c.loop-place-test.false)) in
    c.loop-place.invariant.1 c.loop-place.self (subst (λ (l : List Put). Awakens c.loop-place.self c.loop-place.self (addresses l)) (sym none) (awakens_none c.loop-place.self c.loop-place.invariant.0))
