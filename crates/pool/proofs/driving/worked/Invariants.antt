use Rattle.std.proofs.Common.{◌+◌}
use Rattle.hub.specs.Opening.{opening_of}
use Rattle.pool.proofs.driving.worked.Given as goal

abbrev pub ghosts-run_team : goal.ghosts-run_team
ghosts-run_team g a = record {
  table = a.blank.table;
  passes = a.blank.envs + a.blank.workers;
  envs = a.blank.envs;
  opening = opening_of g.D.Disk a.core;
  left = g.D.Disk.left_at a.core.vault.disk;
}
