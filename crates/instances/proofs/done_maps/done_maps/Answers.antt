use Rattle.std.proofs.Common.{◌<◌, ap, sym, subst, arith, length, get_or, ℕ, List}
use Rattle.std.specs.FinMap.{empty}
use Rattle.std.proofs.lemmas.List.{length_push}
use Rattle.maps.specs.Marked.{Marked}
use Rattle.instances.specs.declared.standing.Standing.{Standing}
use Rattle.instances.specs.Known.{fresh_step}
use Rattle.instances.specs.MarkedDone.{MarksDone}
use Rattle.instances.proofs.DoneLeft.{one_more}
use Rattle.instances.proofs.done_maps.done_maps.Goals as goal

pub loop-step-preserved : goal.loop-step-preserved
loop-step-preserved c =
    let items = c.push_reserved.ensures.items in
    record {
      many = omega (arith, ap length items, c.loop-step.invariant.many, length_push c.loop-step.maps.items c.in-Ok.marks);
      room = omega (arith, c.loop-step.invariant.room, c.push_reserved.ensures.capacity);
      each = subst
          (λ (maps : List (Marked Standing)). (n : ℕ) → n < length maps → MarksDone (get_or c.args.steps.now n (fresh_step (record { 0 = 0 }))).instances.states (get_or maps n empty)) (sym items)
          (one_more c.args.steps.now c.loop-step.maps.items c.loop-step.step-index c.step-item.result c.in-Ok.marks c.loop-step.invariant.many c.loop-step-test.true c.step-item.is c.loop-step.invariant.each c.in-Ok.ensures);
    }
