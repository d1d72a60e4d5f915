use Rattle.std.proofs.Common.{[], ◌∷◌}
use Rattle.machine.specs.Group.{cut}
use Rattle.commit.specs.Batch.{ends_said}
use Rattle.hub.proofs.kept.Kept.finish_all.Given as goal

-- the ends that were committed
abbrev pub ghosts-record_ends : goal.ghosts-record_ends
ghosts-record_ends g a = record { commit = cut a.ended (ends_said a.batch.now.value) }
