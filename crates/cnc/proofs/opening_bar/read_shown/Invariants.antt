use Rattle.std.proofs.Common.{◌≡◌, ◌≤◌, ◌-◌, IsTrue, take, drop}
use Rattle.disk.specs.declared.side.Side.{Side}
use Rattle.cnc.proofs.opening_bar.read_shown.Given as goal

abbrev pub decreases-loop-read : goal.decreases-loop-read
decreases-loop-read g l = l.all - l.read

-- so far no call of the disk returned an error, and the front of the buffer is what the file has there
abbrev pub invariant-loop-read : goal.invariant-loop-read
invariant-loop-read g l = record {
  within : l.read ≤ l.all;
  front : IsTrue g.D.Disk.is_honest → take l.read l.buffer ≡ take l.read (drop l.at (g.D.Disk.files l.fn.disk l.side).content);
  same : IsTrue g.D.Disk.is_honest → (each : Side) → g.D.Disk.files l.disk each ≡ g.D.Disk.files l.fn.disk each;
  failures : g.D.Disk.failures l.disk ≡ g.D.Disk.failures l.fn.disk;
  refusals : g.D.Disk.refusals l.disk ≡ g.D.Disk.refusals l.fn.disk;
}
