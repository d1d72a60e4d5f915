use Rattle.std.proofs.Common.{◌+◌}
use Rattle.hub.specs.Opening.{opening_of}
use Rattle.hub.proofs.both.put_two.Given as goal

abbrev pub ghosts-put_both : goal.ghosts-put_both
ghosts-put_both g a = record {
  table = a.blank.table;
  passes = a.blank.envs + a.blank.workers;
  envs = a.blank.envs;
  opening = opening_of g.D.Disk a.core;
  left = g.D.Disk.left_at a.core.vault.disk;
}
