use Rattle.std.proofs.Common.{[], ◌∷◌}
use Rattle.terms.specs.declared.event.Event.TheVariants.{EnvItem}
use Rattle.hub.proofs.kept.Kept.put_item.Given as goal

-- the commit of the put
abbrev pub ghosts-record_item : goal.ghosts-record_item
ghosts-record_item g a = record { commit = EnvItem a.addr a.value ∷ [] }
