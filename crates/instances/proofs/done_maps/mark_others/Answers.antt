use Rattle.std.proofs.Common.{subst}
use Rattle.instances.proofs.Settling.{Settles, Standings, begun, goes_on, settled_all}
use Rattle.instances.proofs.done_maps.mark_others.Goals as goal

pub loop-key-init : goal.loop-key-init
loop-key-init c = λ standings walked unmarked. rw (c.into_iter-key-iterator.ensures.into_iter_gives, walked) (begun standings c.args.marks.now unmarked)

pub loop-key-preserved : goal.loop-key-preserved
loop-key-preserved c = λ standings walked unmarked.
    goes_on standings c.in-Some.key c.in-Some.standing c.next.new.self c.loop-key.marks c.mark_unless_over.new.marks
    (subst (λ (left : Standings). Settles standings left c.loop-key.marks) c.in-Some.ensures.steps (c.loop-key.invariant standings walked unmarked)) c.mark_unless_over.ensures

pub returns : goal.returns
returns c = λ standings walked unmarked.
    settled_all standings c.loop-key.marks (subst (λ (left : Standings). Settles standings left c.loop-key.marks) c.in-None.ensures.steps.0 (c.loop-key.invariant standings walked unmarked))
