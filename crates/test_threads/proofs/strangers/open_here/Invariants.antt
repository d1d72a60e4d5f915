use Rattle.std.proofs.Common.{◌+◌}
use Rattle.hub.specs.Opening.{opening_of}
use Rattle.test_threads.proofs.strangers.open_here.Given as goal

abbrev pub ghosts-open_there : goal.ghosts-open_there
ghosts-open_there g a = record {
  table = a.blank.table;
  passes = a.blank.envs + a.blank.workers;
  envs = a.blank.envs;
  opening = opening_of g.D.Disk a.core;
  left = g.D.Disk.left_at a.core.vault.disk;
}
