use Rattle.std.proofs.Common.{[], ◌∷◌}
use Rattle.terms.specs.declared.event.Event.TheVariants.{EnvTag}
use Rattle.hub.proofs.kept.Kept.put_tag.Given as goal

-- the commit of the put
abbrev pub ghosts-record_tag : goal.ghosts-record_tag
ghosts-record_tag g a = record { commit = EnvTag a.tag ∷ [] }
