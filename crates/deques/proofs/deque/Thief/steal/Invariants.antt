use Rattle.crossbeam_deque.specs.Handles.{IsPassOf, stealer_deque}
use Rattle.deques.proofs.deque.Thief.steal.Given as goal

-- the pass is one of this deque
abbrev pub invariant-loop : goal.invariant-loop
invariant-loop l = IsPassOf (stealer_deque l.self.stealer) l.pass
