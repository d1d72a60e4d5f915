-- The events of a commit as a list: of the one in doubt, after a call that halted a core, and of the latest one.
use Rattle.std.specs.Prelude.{List, [], ◌∷◌}
use Rattle.terms.specs.declared.event.Event.{Event}
use Rattle.commit.specs.declared.events.Events.{Events}
use Rattle.commit.specs.declared.events.Events.TheVariants.{Nothing, One, Several}

-- the events, in their order
abbrev pub events_in : Events → List Event
events_in Nothing = []
events_in (One event) = event ∷ []
events_in (Several events) = events.items
