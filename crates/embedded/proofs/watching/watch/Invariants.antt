use Rattle.std.proofs.Common.{◌+◌}
use Rattle.hub.specs.Opening.{opening_of}
use Rattle.embedded.proofs.watching.watch.Given as goal

abbrev pub ghosts-watch_as : goal.ghosts-watch_as
ghosts-watch_as g a = record {
  table = a.blank.table;
  passes = a.blank.envs + a.blank.workers;
  envs = a.blank.envs;
  opening = opening_of g.D.Disk a.core;
  left = g.D.Disk.left_at a.core.vault.disk;
}
