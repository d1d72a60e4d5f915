use Rattle.std.proofs.Common.{◌+◌}
use Rattle.hub.specs.Opening.{opening_of}
use Rattle.bench.proofs.hubs.in_hub.Given as goal

abbrev pub ghosts-hub_as : goal.ghosts-hub_as
ghosts-hub_as g a = record {
  table = a.blank.table;
  passes = a.blank.envs + a.blank.workers;
  envs = a.blank.envs;
  opening = opening_of g.D.Disk a.core;
  left = g.D.Disk.left_at a.core.vault.disk;
}
