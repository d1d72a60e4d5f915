use Rattle.pool.specs.Worked.{AreKept, IsHand}
use Rattle.pool.proofs.worker.take_turns.Given as goal

-- what the worker keeps, it may commit, and what it has in hand is of the graph
abbrev pub invariant-loop : goal.invariant-loop
invariant-loop g l =
    (goal.iterator-loop g).can_next l.iterator' × (goal.iterator-loop g).is_finite l.iterator' × IsHand g.J.Naming.opening l.pass.seen l.hand × AreKept g.J.Naming.opening l.pass l.kept
