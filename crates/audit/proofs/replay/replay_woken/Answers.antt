use Rattle.std.proofs.Common.{List, refl, subst}
use Rattle.terms.specs.declared.name.Inst.{Inst}
use Rattle.instances.specs.Listed.{AreTheDone}
use Rattle.audit.proofs.Counted.{one_less}
use Rattle.audit.proofs.replay.replay_woken.Goals as goal

pub loop-puts-smaller : goal.loop-puts-smaller
loop-puts-smaller g c =
    one_less c.facts_are_told_apart.ensures.one c.args.store.now c.loop-puts.marks c.replay_next.new.marks c.is_kept.ensures
    (subst (λ (list : List Inst). AreTheDone c.args.store.now.memory.instances list) c.done.ensures.walk c.done.ensures.done) ((rw c.in-Some.is at c.in_ok-puts.ensures.one) refl)
