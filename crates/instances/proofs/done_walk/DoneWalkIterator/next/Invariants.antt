use Rattle.std.proofs.Common.{◌≡◌, length}
use Rattle.std.specs.List.{filter_map}
use Rattle.instances.specs.Listed.{if_done}
use Rattle.instances.proofs.done_walk.DoneWalkIterator.next.Given as goal

-- the done ones that are left are the same as before
abbrev pub invariant-loop-inst : goal.invariant-loop-inst
invariant-loop-inst l = filter_map (λ entry. if_done entry.0 entry.1) l.self-inside.walk ≡ filter_map (λ entry. if_done entry.0 entry.1) l.initial.self-inside.walk

abbrev pub decreases-loop-inst : goal.decreases-loop-inst
decreases-loop-inst l = length l.self-inside.walk
