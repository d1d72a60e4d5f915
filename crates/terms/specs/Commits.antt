-- Commits: events that become durable together, all of them or none; and the state after a list of commits.
use Rattle.std.specs.Prelude.{List, [], ◌∷◌, ◌++◌}
use Rattle.terms.specs.declared.event.Event.{Event}
use Rattle.terms.specs.Facts.{facts, environment}
use Rattle.terms.specs.Sets.{Facts, with_facts}

-- the events of one append, in order
abbrev pub Commit : Type 0
Commit = List Event

-- the events of several commits, one after another
abbrev pub events_of : List Commit → List Event
events_of [] = []
events_of (commit ∷ commits) = commit ++ events_of commits

-- the facts after these commits, if the facts before them were X
abbrev pub facts_behind : Facts → List Commit → Facts
facts_behind X commits = with_facts X (facts (events_of commits))

-- and the part of them that the environment put, if that part was E before
abbrev pub environment_behind : Facts → List Commit → Facts
environment_behind E commits = with_facts E (environment (events_of commits))
