use Rattle.std.proofs.Common.{[], ◌∷◌}
use Rattle.commit.specs.Outcome.{end_of}
use Rattle.hub.proofs.kept.Kept.finish.Given as goal

-- the end that was committed
abbrev pub ghosts-record_end : goal.ghosts-record_end
ghosts-record_end g a = record { commit = end_of a.committed a.instance a.outcome.now.value ∷ [] }
