use Rattle.std.proofs.Common.{◌≡◌, false, List, subst}
use Rattle.terms.specs.declared.name.Inst.{Inst}
use Rattle.audit.proofs.Sweeping.{Sweeping, all_stuck, begins_sweep, sweeps_on, sweeps_past}
use Rattle.audit.proofs.replay.sweep.Goals as goal

pub loop-inst-init : goal.loop-inst-init
loop-inst-init g c =
    rw (c.into_iter-inst-iterator.ensures.into_iter_gives) (begins_sweep c.facts_are_told_apart.ensures.one c.args.store.now c.args.marks.now c.done-inst-items.result c.is_kept.ensures c.done-inst-items.ensures.done c.requires.replayed)

pub loop-inst-preserved-in-Replayed : goal.loop-inst-preserved-in-Replayed
loop-inst-preserved-in-Replayed g c =
    let was = subst (λ (list : List Inst). Sweeping c.args.store.now c.args.marks.now c.loop-inst.marks c.loop-inst.is_one list) c.in-Some.ensures.steps c.loop-inst.invariant in
    sweeps_on c.args.store.now c.args.marks.now c.loop-inst.marks c.try_one.new.marks c.loop-inst.is_one c.in-Some.inst c.next.new.self was c.in_ok-puts.ensures.replayed (rw c.in-Replayed.is at c.in_ok-puts.ensures.tried)

pub loop-inst-preserved-in-Waits : goal.loop-inst-preserved-in-Waits
loop-inst-preserved-in-Waits g c =
    let was = subst (λ (list : List Inst). Sweeping c.args.store.now c.args.marks.now c.loop-inst.marks c.loop-inst.is_one list) c.in-Some.ensures.steps c.loop-inst.invariant in
    sweeps_past c.args.store.now c.args.marks.now c.loop-inst.marks c.try_one.new.marks c.loop-inst.is_one c.in-Some.inst c.next.new.self was (rw c.in-Waits.is at c.in_ok-puts.ensures.tried)

pub loop-inst-preserved : goal.loop-inst-preserved
loop-inst-preserved g c =
    let was = subst (λ (list : List Inst). Sweeping c.args.store.now c.args.marks.now c.loop-inst.marks c.loop-inst.is_one list) c.in-Some.ensures.steps c.loop-inst.invariant in
    sweeps_past c.args.store.now c.args.marks.now c.loop-inst.marks c.try_one.new.marks c.loop-inst.is_one c.in-Some.inst c.next.new.self was (rw c.in-AsBefore.is at c.in_ok-puts.ensures.tried)

pub returns-clause-none : goal.returns-clause-none
returns-clause-none g c none =
    let is : c.loop-inst.is_one ≡ false = cc in
    all_stuck c.args.store.now c.args.marks.now c.loop-inst.marks c.loop-inst.is_one is (subst (λ (list : List Inst). Sweeping c.args.store.now c.args.marks.now c.loop-inst.marks c.loop-inst.is_one list) c.in-None.ensures.steps.0 c.loop-inst.invariant)
