use Rattle.std.proofs.Common.{◌≡◌, ◌++◌, List, None}
use Rattle.std.specs.List.{AllByRecursion}
use Rattle.passes.specs.Known.{Known}
use Rattle.passes.specs.Rule.{IsInHistory}
use Rattle.passes.specs.Roll.{AllMade}
use Rattle.passes.proofs.roll.gather.Given as goal

-- the passes that were taken in are in the history, and have events of their kind
abbrev pub invariant-loop-pass : goal.invariant-loop-pass
invariant-loop-pass g l = record {
  alone : l.desk.guest ≡ None;
  same : l.desk ≡ l.initial.desk;
  taken : (done : List Known) × (l.passes.items ++ done ≡ l.initial.passes.items) × AllByRecursion (IsInHistory l.initial.desk.book.history) done × AllMade g.K.Kind.makes done;
}

abbrev pub decreases-loop-pass : goal.decreases-loop-pass
decreases-loop-pass g l = goal.left-loop-pass g l
