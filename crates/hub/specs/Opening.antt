-- What a core has when a hub is opened on it, and the state after commits from there.
use Rattle.disk.specs.declared.storage.Disk.{Ghosts}
use Rattle.std.specs.Prelude.{◌≡◌, ◌+◌, ℕ, true, List, [], ◌∷◌}
use Rattle.terms.specs.declared.event.Event.{Event}
use Rattle.terms.specs.Commits.{Commit, events_of}
use Rattle.terms.specs.Commits as of_commits
use Rattle.terms.specs.Sets.{Facts}
use Rattle.machine.specs.State.{AreLegalFrom}
use Rattle.commit.specs.Core.{Core}
use Rattle.commit.specs.Core as core
use Rattle.commit.specs.Calls.{step_count}
use Rattle.commit.specs.Runs.{Begun, records_length}
use Rattle.vault.specs.Opened.{contents_of}
use Rattle.passes.specs.Opening.{Opening}

-- what a core has when a hub is opened on it
abbrev pub opening_of : {D : Type 0} → Ghosts D → Core D → Opening
opening_of storage c = record {
  graph = core.graph c;
  facts = core.facts c;
  environment = core.environment c;
  allowance = c.allowance;
  latest = c.latest;
  generation = c.vault.generation;
  end = c.vault.journal.end;
  halted = core.is_halted c;
  in_doubt = c.in_doubt;
  moment = storage.moment c.vault.disk;
  failures = storage.failures c.vault.disk;
  refusals = storage.refusals c.vault.disk;
  contents = contents_of (storage.files c.vault.disk);
}

-- the beginning of a run from there
abbrev pub begun_with : Opening → Begun
begun_with opening = record {
  graph = opening.graph;
  facts = opening.facts;
  environment = opening.environment;
  allowance = opening.allowance;
  latest = opening.latest;
  generation = opening.generation;
  end = opening.end;
  moment = opening.moment;
  failures = opening.failures;
  refusals = opening.refusals;
  contents = opening.contents;
}

-- the facts after these commits, and those of them that the environment put
abbrev pub facts_behind : Opening → List Commit → Facts
facts_behind opening commits = of_commits.facts_behind opening.facts commits

abbrev pub environment_behind : Opening → List Commit → Facts
environment_behind opening commits = of_commits.environment_behind opening.environment commits

-- where the journal ends after these commits, unless the core is halted
abbrev pub end_behind : Opening → List Commit → ℕ
end_behind opening commits = opening.end + records_length commits

-- how many of the events are ends of steps
abbrev pub steps_in : List Event → ℕ
steps_in [] = 0
steps_in (event ∷ events) = step_count event + steps_in events

-- a turnover had halted the core
abbrev pub WasTurned : Opening → Type 0
WasTurned opening = (opening.halted ≡ true) × (opening.in_doubt ≡ [])

-- each of their events is legal after those before it
abbrev pub AreLegalBehind : Opening → List Commit → Type 0
AreLegalBehind opening commits = AreLegalFrom opening.graph opening.facts (events_of commits)

-- the core has the state after these commits, and may commit one step less for each end of a step among their events
pub record IsBehind {D : Type 0} (opening : Opening) (commits : List Commit) (c : Core D) : Type 0 where
  pub graph : core.graph c ≡ opening.graph
  pub facts : core.facts c ≡ facts_behind opening commits
  pub environment : core.environment c ≡ environment_behind opening commits
  pub allowance : c.allowance + steps_in (events_of commits) ≡ opening.allowance
