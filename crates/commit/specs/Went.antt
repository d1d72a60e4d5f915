-- How a core goes on by commits that come one after another: by those of a run, or of a session, or of any other calls.
use Rattle.disk.specs.Storage.{Errs, Leaves}
use Rattle.disk.specs.declared.storage.Disk.{Ghosts}
use Rattle.std.specs.Prelude.{◌≡◌, ◌≤◌, ◌+◌, ◌↔◌, true, false, List, [], ◌++◌, IsTrue}
use Rattle.terms.specs.Commits.{Commit, environment_behind, events_of, facts_behind}
use Rattle.terms.specs.Facts.{Fact}
use Rattle.machine.specs.State.{AreLegalFrom}
use Rattle.vault.specs.Commits.{StandsForBeginning}
use Rattle.vault.specs.Opened.{contents_of}
use Rattle.vault.specs.Store.{HasGates}
use Rattle.commit.specs.Calls.{KeepsStore}
use Rattle.commit.specs.Core.{Core, is_halted}
use Rattle.commit.specs.Core as core
use Rattle.commit.specs.Runs.{AcknowledgesFrom, in_one, records_length}

module _ {D : Type 0} (storage : Ghosts D) where
  -- From a core that is not halted these commits came, one after another; and if it is halted now, the one in doubt may
  -- have come after them. Their events were legal, and all that is new is what they state; the journal has their records behind those that it had, and the generation stays. At each moment a
  -- crash leaves what a prefix of the commits states: those that were acknowledged by then, or these and the next one. The core is halted exactly if a call of the
  -- disk returned an error.
  pub record Went (old new : Core D) (commits : List Commit) : Type 0 where
    pub legal : AreLegalFrom (core.graph old) (core.facts old) (events_of commits ++ new.in_doubt)
    pub graph : core.graph new ≡ core.graph old
    pub facts : (fact : Fact) → core.facts new fact ≡ facts_behind (core.facts old) commits fact
    pub environment : (fact : Fact) → core.environment new fact ≡ environment_behind (core.environment old) commits fact
    pub generation : is_halted new ≡ false → new.vault.generation ≡ old.vault.generation
    pub end : is_halted new ≡ false → new.vault.journal.end ≡ old.vault.journal.end + records_length commits
    pub crashes : IsTrue storage.is_honest → Leaves storage old.vault.disk new.vault.disk (StandsForBeginning (core.graph old) (core.environment old) (core.facts old) [] (commits ++ in_one new.in_doubt))
    pub acknowledged : IsTrue storage.is_honest → AcknowledgesFrom (core.graph old) (core.environment old) (core.facts old) (storage.left_at new.vault.disk) (storage.moment new.vault.disk) (storage.moment old.vault.disk) [] commits (in_one new.in_doubt)
    pub gates : IsTrue storage.is_honest → HasGates (contents_of (storage.files old.vault.disk)) → Leaves storage old.vault.disk new.vault.disk HasGates
    pub halts : (is_halted new ≡ true) ↔ Errs storage old.vault.disk new.vault.disk

  -- A core that was halted stays as it was, and no commit comes. If the core is not halted afterwards, nothing is in doubt.
  pub record GoesOn (old new : Core D) (commits : List Commit) : Type 0 where
    pub went : is_halted old ≡ false → Went old new commits
    pub stays : is_halted old ≡ true → KeepsStore old new × (commits ≡ [])
    pub settled : is_halted new ≡ false → new.in_doubt ≡ []
    pub later : storage.failures old.vault.disk ≤ storage.failures new.vault.disk
