use Rattle.std.proofs.Common.{◌≡◌}
use Rattle.commit.specs.Core.{graph}
use Rattle.drawing.proofs.store.park_all.Given as goal

-- neither the files nor the graph have changed
abbrev pub invariant-loop : goal.invariant-loop
invariant-loop g l = record {
  vault : l.core.vault ≡ l.initial.core.vault;
  graph : graph l.core ≡ graph l.initial.core;
}
