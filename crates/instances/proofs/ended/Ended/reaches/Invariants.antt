use Rattle.std.proofs.Common.{◌≡◌, length}
use Rattle.std.specs.FinMap.{find}
use Rattle.maps.specs.Numbered.{place_cmp}
use Rattle.instances.specs.Ended.{IsPassed, with_next}
use Rattle.instances.proofs.ended.Ended.reaches.Given as goal

-- what is left has the place, if all had it, and all that comes after the place
abbrev pub invariant-loop-self : goal.invariant-loop-self
invariant-loop-self l =
    let left = with_next l.self-inside.next l.self-inside.others in
    (find place_cmp (l.number, l.key) left ≡ find place_cmp (l.number, l.key) l.fn.self)
    × IsPassed l.fn.self left (l.number, l.key)

abbrev pub decreases-loop-self : goal.decreases-loop-self
decreases-loop-self l = length (with_next l.self-inside.next l.self-inside.others)
