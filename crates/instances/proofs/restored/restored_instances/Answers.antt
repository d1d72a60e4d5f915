use Rattle.std.proofs.Common.{◌∙◌, ap, subst, Bool, List}
use Rattle.std.specs.FinMap.{get}
use Rattle.maps.specs.Numbered.{Place}
use Rattle.instances.proofs.Restoring.{Restores, all_restored, begun, goes_on, is_absent}
use Rattle.instances.proofs.restored.restored_instances.Goals as goal

pub loop-key-init : goal.loop-key-init
loop-key-init c =
    rw (c.into_iter-key-iterator.ensures.into_iter_gives, c.walk_of-key-items.ensures, c.new-ended.ensures, c.walk_of.ensures, c.new-instances.ensures)
    (begun c.args.tags.now.items c.args.ended.now.items c.args.prescriber.0 c.args.number)

pub reaches-is_done-requires : goal.reaches-is_done-requires
reaches-is_done-requires c = c.loop-key.invariant.ended_rise

pub add-requires-clause-absent : goal.add-requires-clause-absent
add-requires-clause-absent c =
    let was =
    subst (λ (left : List (Place × Bool)). Restores c.args.tags.now.items c.args.ended.now.items c.args.prescriber.0 c.args.number left c.loop-key.ended c.loop-key.instances.states) c.in-Some.ensures.steps c.loop-key.invariant in
    ap (λ states. get states c.in-Some.key) c.make_room.ensures.states ∙ is_absent c.args.tags.now.items c.args.ended.now.items c.args.prescriber.0 c.args.number _ c.next.new.self c.loop-key.ended c.loop-key.instances.states was

pub loop-key-preserved : goal.loop-key-preserved
loop-key-preserved c =
    let was =
    subst (λ (left : List (Place × Bool)). Restores c.args.tags.now.items c.args.ended.now.items c.args.prescriber.0 c.args.number left c.loop-key.ended c.loop-key.instances.states) c.in-Some.ensures.steps c.loop-key.invariant in
    goes_on c.args.tags.now.items c.args.ended.now.items c.args.prescriber.0 c.args.number _ c.next.new.self c.loop-key.ended c.loop-key.instances.states was c.reaches-is_done.new.self c.make_room.new.self c.add.new.self c.reaches-is_done.result
    c.make_room.ensures.states c.reaches-is_done.ensures.found c.add.ensures c.reaches-is_done.ensures.passed

pub returns : goal.returns
returns c =
    all_restored c.args.tags.now.items c.args.ended.now.items c.args.prescriber.0 c.args.number c.loop-key.ended c.loop-key.instances.states
    (subst (λ (left : List (Place × Bool)). Restores c.args.tags.now.items c.args.ended.now.items c.args.prescriber.0 c.args.number left c.loop-key.ended c.loop-key.instances.states) c.in-None.ensures.steps.0 c.loop-key.invariant)
