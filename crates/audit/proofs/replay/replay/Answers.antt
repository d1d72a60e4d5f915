use Rattle.std.proofs.Common.{Bool, List, Ok, ap, subst}
use Rattle.terms.specs.declared.name.Inst.{Inst}
use Rattle.instances.specs.Listed.{AreTheDone}
use Rattle.audit.proofs.Counted.{one_less_then}
use Rattle.audit.proofs.replay.replay.Goals as goal

pub returns-then-not-branch-clause-stuck : goal.returns-then-not-branch-clause-stuck
returns-then-not-branch-clause-stuck g c = c.in_ok-sweep.ensures.none (ap (λ (b : Bool). Ok b) c.if-not-branch.true)

pub loop-alloc-smaller : goal.loop-alloc-smaller
loop-alloc-smaller g c =
    one_less_then c.facts_are_told_apart.ensures.one c.args.store.now c.loop-alloc.marks c.sweep.new.marks c.replay_between.new.marks c.is_kept.ensures
    (subst (λ (list : List Inst). AreTheDone c.args.store.now.memory.instances list) c.done.ensures.walk c.done.ensures.done) (c.in_ok-sweep.ensures.one (ap (λ (b : Bool). Ok b) c.if-not-branch.false)) c.in_ok-replay_between.ensures.grows
