use Rattle.std.proofs.Common.{◌≤◌, take, drop}
use Rattle.disk.specs.Calls.{durable_of}
use Rattle.disk.specs.Crash.{TouchedSince}
use Rattle.disk.proofs.crash.last_sync.Given as goal

abbrev pub invariant-loop-index : goal.invariant-loop-index
invariant-loop-index l = record {
  within : l.behind ≤ l.index;
  since : TouchedSince (durable_of (take l.index l.calls) l.side) l.side l.synced (drop l.behind (take l.index l.calls));
}
