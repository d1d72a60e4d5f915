use Rattle.std.proofs.Common.{◌≡◌, map, take}
use Rattle.report.specs.TableText.{most_components}
use Rattle.report.proofs.table.most_components.Given as goal

-- it is the greatest number of the collections so far
abbrev pub invariant-loop-one : goal.invariant-loop-one
invariant-loop-one l = l.most ≡ most_components l.graph (map (λ one. one.1) (take l.one-index l.collections))
