-- A run of the steps of a core: the ends of instances that it commits, and what it returns.
use Rattle.disk.specs.declared.storage.Disk.{Ghosts}
use Rattle.std.specs.Prelude.{◌≡◌, ◌≢◌, ◌⊎◌, ◌↔◌, ◌+◌, ◌<◌, ◌≤◌, ⊤, ℕ, Bool, true, false, List, [], ◌∷◌, ◌++◌, length, Some, Result, Ok, Err, OnErr, IsTrue}
use Rattle.std.specs.List.{AllByRecursion}
use mathlib.Core.List.{IsPrefix}
use Rattle.journal.specs.declared.journal.TheConstants.{LIMIT}
use Rattle.disk.specs.Time.{Contents, LeavesSince}
use Rattle.terms.specs.declared.name.Inst.{Inst}
use Rattle.terms.specs.declared.event.Event.{Event}
use Rattle.terms.specs.declared.event.Event.TheVariants as event
use Rattle.terms.specs.Commits.{Commit, events_of, facts_behind}
use Rattle.terms.specs.Facts.{Fact}
use Rattle.terms.specs.Sets.{Facts}
use Rattle.graph.specs.Graph.{Graph}
use Rattle.instances.specs.declared.state.State.TheVariants.{Running}
use Rattle.machine.specs.Legal.{IsLegal}
use Rattle.machine.specs.State.{AreLegalFrom}
use Rattle.vault.specs.Commits.{StandsForBeginning}
use Rattle.vault.specs.Opened.{contents_of}
use Rattle.vault.specs.Store.{HasGates}
use Rattle.commit.specs.declared.error.CoreError.{CoreError}
use Rattle.commit.specs.declared.error.CoreError.TheVariants.{Store}
use Rattle.vault.specs.declared.error.VaultError.TheVariants as vault
use Rattle.commit.specs.declared.status.Status.{Status}
use Rattle.commit.specs.declared.status.Status.TheVariants as status
use Rattle.commit.specs.declared.verdict.Verdict.{Verdict}
use Rattle.commit.specs.declared.verdict.Verdict.TheVariants.{Complete, Blocked, Stopped, Limit, Asked, Halted}
use Rattle.commit.specs.declared.verdict.RunError.{RunError}
use Rattle.commit.specs.declared.verdict.RunError.TheVariants.{Spawn, NoMemory, Full}
use Rattle.commit.specs.declared.outcome.Outcome.{Outcome}
use Rattle.commit.specs.declared.outcome.Committed.{Committed}
use Rattle.commit.specs.Calls.{GivesBack, Halts, IsTooLong, commit_length}
use Rattle.commit.specs.Outcome.{Finishes, IsEndOf, Tells}
use Rattle.commit.specs.Core.{Core, graph, facts, state_of, is_halted}
use Rattle.commit.specs.Core as core
use Rattle.commit.specs.Status.{TellsStatus, SaysOfMeaning}
use Rattle.commit.specs.Steps.{ready_count}

-- no instance runs
abbrev pub NoneRuns : {D : Type 0} → Core D → Type 0
NoneRuns c = (instance : Inst) → state_of c instance ≢ Some Running

-- After an instance was run the core is not halted, with nothing in doubt. If the instance came to its end, fewer steps may be committed than before; otherwise this holds.
abbrev pub RanOn : {D : Type 0} → Core D → Core D → Type 0 → Bool → Type 0
RanOn old new otherwise ended =
    (is_halted new ≡ false) × (new.in_doubt ≡ []) × (ended ≡ true → new.allowance < old.allowance) × (ended ≡ false → otherwise)

-- as many steps may be committed, and as many instances are ready
abbrev pub HasAsMany : {D : Type 0} → Core D → Core D → Type 0
HasAsMany old new = (new.allowance ≡ old.allowance) × (ready_count new ≡ ready_count old)

-- ---- what is committed

-- the event ends an instance, as done or at fault
abbrev pub IsEnd : Event → Type 0
IsEnd (event.EnvItem address value) = ⊥
IsEnd (event.EnvTag name) = ⊥
IsEnd (event.Done instance puts) = ⊤
IsEnd (event.Stopped instance kind) = ⊤

-- these events as one commit; no commit, if there are none
abbrev pub in_one : List Event → List Commit
in_one [] = []
in_one (first ∷ events) = (first ∷ events) ∷ []

-- From this moment on a crash leaves what the commits that are made state; these are acknowledged. Until the next commit is acknowledged, a crash may leave that one too; and so on. From the
-- last one on it leaves all of them, perhaps with the one in doubt.
abbrev pub AcknowledgesFrom : Graph → Facts → Facts → (left : ℕ → Contents → Type 0) → (last from : ℕ) → (made commits doubt : List Commit) → Type 0
AcknowledgesFrom g E X left last from made [] doubt =
    (t : ℕ) (contents : Contents) → from ≤ t → t ≤ last → left t contents → StandsForBeginning g E X made doubt contents
AcknowledgesFrom g E X left last from made (commit ∷ commits) doubt =
    (next : ℕ) × (from ≤ next) × (next ≤ last)
    × ((t : ℕ) (contents : Contents) → from ≤ t → t ≤ next → left t contents → StandsForBeginning g E X made (commit ∷ []) contents)
    × AcknowledgesFrom g E X left last next (made ++ commit ∷ []) commits doubt

-- what a store was when a run began: its graph and facts, how many steps it might commit, the events of its latest commit, its generation, and where its
-- journal ended; and of its disk the moment, the counts of errors, and the contents of both files
pub record Begun : Type 0 where
  pub graph : Graph
  pub facts : Facts
  pub environment : Facts
  pub allowance : ℕ
  pub latest : List Event
  pub generation : ℕ
  pub end : ℕ
  pub moment : ℕ
  pub failures : ℕ
  pub refusals : ℕ
  pub contents : Contents

abbrev pub begun_by : {D : Type 0} → Ghosts D → Core D → Begun
begun_by storage c = record {
  graph = core.graph c;
  facts = core.facts c;
  environment = core.environment c;
  allowance = c.allowance;
  latest = c.latest;
  generation = c.vault.generation;
  end = c.vault.journal.end;
  moment = storage.moment c.vault.disk;
  failures = storage.failures c.vault.disk;
  refusals = storage.refusals c.vault.disk;
  contents = contents_of (storage.files c.vault.disk);
}

-- how many bytes the records of these commits have
abbrev pub records_length : List Commit → ℕ
records_length [] = 0
records_length (commit ∷ commits) = commit_length commit + records_length commits

-- the latest commit, where this one was the latest before these
abbrev pub latest_after : Commit → List Commit → Commit
latest_after before [] = before
latest_after before (commit ∷ commits) = latest_after commit commits

-- Since a core that was like this, was not halted, and of which a crash might leave this, these commits of ends of instances came, one after another;
-- if the core is halted now, one more is in doubt. They were legal, and state all that is new; each end used one of the allowance, and the last of the commits
-- is the latest. The journal has their records behind those that it had, and the generation stays. At each moment a
-- crash leaves what a prefix of them states, each of which is there whole: those that were acknowledged by then, or these and the next one. The core is halted exactly if a call of the
-- disk returned an error.
pub record RunsSince {D : Type 0} (storage : Ghosts D) (begun : Begun) (left : ℕ → Contents → Type 0) (new : Core D) (commits : List Commit) : Type 0 where
  pub are_ends : AllByRecursion IsEnd (events_of commits ++ new.in_doubt)
  pub legal : AreLegalFrom begun.graph begun.facts (events_of commits ++ new.in_doubt)
  pub graph : core.graph new ≡ begun.graph
  pub facts : (fact : Fact) → core.facts new fact ≡ facts_behind begun.facts commits fact
  pub environment : (fact : Fact) → core.environment new fact ≡ begun.environment fact
  pub spent : new.allowance + length (events_of commits) ≡ begun.allowance
  pub latest : new.latest ≡ latest_after begun.latest commits
  pub generation : is_halted new ≡ false → new.vault.generation ≡ begun.generation
  pub end : is_halted new ≡ false → new.vault.journal.end ≡ begun.end + records_length commits
  pub crashes : IsTrue storage.is_honest → LeavesSince storage.moment storage.left_at begun.moment left new.vault.disk (StandsForBeginning begun.graph begun.environment begun.facts [] (commits ++ in_one new.in_doubt))
  pub acknowledged : IsTrue storage.is_honest → AcknowledgesFrom begun.graph begun.environment begun.facts (storage.left_at new.vault.disk) (storage.moment new.vault.disk) begun.moment [] commits (in_one new.in_doubt)
  pub gates : IsTrue storage.is_honest → HasGates begun.contents → LeavesSince storage.moment storage.left_at begun.moment left new.vault.disk HasGates
  pub halts : (is_halted new ≡ true) ↔ ((begun.failures < storage.failures new.vault.disk) ⊎ (storage.refusals new.vault.disk ≢ begun.refusals))
  pub later : begun.failures ≤ storage.failures new.vault.disk
  pub some_in_doubt : is_halted new ≡ true → (0 < length new.in_doubt) × (length (events_of commits) + length new.in_doubt ≤ begun.allowance)

-- the same from one core to another
abbrev pub Runs : {D : Type 0} → Ghosts D → (old new : Core D) → List Commit → Type 0
Runs storage old new commits = RunsSince storage (begun_by storage old) (storage.left_at old.vault.disk) new commits

-- ---- what is returned

-- the core is not halted, and this is how far it is
abbrev pub IsAt : {D : Type 0} → Core D → Status → Type 0
IsAt c status = (is_halted c ≡ false) × TellsStatus c status × SaysOfMeaning c status

-- some end of an instance may come, and its record does not fit
abbrev pub IsFull : {D : Type 0} → Core D → Type 0
IsFull c = (end : Event) × IsEnd end × IsLegal (graph c) (facts c) end × IsTooLong c end

-- In a store of this graph, with these facts, and whose journal ended there, these commits came; and after a prefix of them some ends of instances might have come as one more, but its record
-- did not fit.
pub record MetFull (g : Graph) (X : Facts) (from : ℕ) (commits : List Commit) : Type 0 where
  pub before : List Commit
  pub starts : IsPrefix before commits
  pub refused : Commit
  pub some : 0 < length refused
  pub are_ends : AllByRecursion IsEnd refused
  pub legal : AreLegalFrom g (facts_behind X before) refused
  pub too_long : LIMIT ≤ from + records_length before + commit_length refused

-- This is returned after a run with this limit, in which `count` ends were committed, by a driver that may be asked to stop, or may start threads.
-- The first line that holds is returned, in this order: the core is halted; it is stopped; it is quiet. In the other lines something is ready, and
-- there is no fault. `Full` is returned only if `full` holds, that an end was so refused. Any of the three errors and of the limit that holds may be
-- returned; one thread returns `Full` only if its limit was not met.
abbrev pub TellsVerdict : {D : Type 0} → (full : Type 0) → (may_be_asked may_spawn : Bool) → Core D → (limit count : ℕ) → Result Verdict RunError → Type 0
TellsVerdict full may_be_asked may_spawn c limit count (Ok Halted) = is_halted c ≡ true
TellsVerdict full may_be_asked may_spawn c limit count (Ok (Stopped instance kind)) = IsAt c (status.Stopped instance kind)
TellsVerdict full may_be_asked may_spawn c limit count (Ok Complete) = IsAt c (status.Quiet 0)
TellsVerdict full may_be_asked may_spawn c limit count (Ok (Blocked blocked)) = IsAt c (status.Quiet blocked) × (blocked ≢ 0)
TellsVerdict full may_be_asked may_spawn c limit count (Err Spawn) = IsAt c status.Working × (may_spawn ≡ true)
TellsVerdict full may_be_asked may_spawn c limit count (Err NoMemory) = IsAt c status.Working
TellsVerdict full may_be_asked may_spawn c limit count (Err Full) = IsAt c status.Working × full × ((count ≢ limit) ⊎ (may_spawn ≡ true))
TellsVerdict full may_be_asked may_spawn c limit count (Ok Limit) = IsAt c status.Working × (count ≡ limit)
TellsVerdict full may_be_asked may_spawn c limit count (Ok Asked) = IsAt c status.Working × (may_be_asked ≡ true) × (count ≢ limit)

-- why a run ends before its limit in a core that is not halted: memory was refused, or the core is full and the limit not met
abbrev pub EndsEarly : {D : Type 0} → Core D → CoreError → Type 0
EndsEarly c error = is_halted c ≡ false → (error ≡ Store vault.NoMemory) ⊎ ((error ≡ Store vault.Full) × IsFull c × (0 < c.allowance))

-- A run with a limit: a core that is halted stays as it is, and `Halted` is returned; another may commit `limit` ends; the result says how it ended. Where
-- `Full` is returned, an end was so refused in the run; on one thread it is refused in the core that is returned, too.
abbrev pub with_allowance : {D : Type 0} → Core D → ℕ → Core D
with_allowance c count = record c { allowance = count }

pub record RunsWithin {D : Type 0} (storage : Ghosts D) (may_be_asked may_spawn : Bool) (old new : Core D) (limit : ℕ) (result : Result Verdict RunError) : Type 0 where
  pub commits : List Commit
  pub runs : Runs storage (with_allowance old limit) new commits
  pub told : TellsVerdict (MetFull (graph old) (facts old) old.vault.journal.end commits × (may_spawn ≡ false → IsFull new)) may_be_asked may_spawn new limit (length (events_of commits)) result

-- the same, for some commits
pub record RunsOn {D : Type 0} (storage : Ghosts D) (old new : Core D) : Type 0 where
  pub commits : List Commit
  pub runs : Runs storage old new commits

-- A finish is a run by itself: of one end at `Ok`, and of none at an error.
abbrev pub EndRuns : {D : Type 0} → Ghosts D → (old new : Core D) → Inst → Outcome → Result Committed CoreError → Type 0
EndRuns storage old new instance outcome (Ok committed) = (end : Event) × IsEndOf outcome instance end × Tells committed end × Runs storage old new ((end ∷ []) ∷ [])
EndRuns storage old new instance outcome (Err error) = Runs storage old new []

-- What a finish promises: an end of the instance is committed, or refused; at an error the instance is ready; and it is a run by itself.
pub record Ends {D : Type 0} (storage : Ghosts D) (old new : Core D) (task : Inst) (outcome : Outcome) (result : Result Committed CoreError) : Type 0 where
  pub finishes : Finishes storage old new task outcome result
  pub err : OnErr result (GivesBack old new task)
  pub halts : Halts storage old new result
  pub runs : is_halted old ≡ false → EndRuns storage old new task outcome result

-- the verdict of a run of the core alone: for each limit of which the allowance is what is left after so many ends
abbrev pub TellsAlone : {D : Type 0} → Core D → Result Verdict RunError → Type 0
TellsAlone c result = (limit count : ℕ) → c.allowance + count ≡ limit → TellsVerdict (IsFull c) false false c limit count result
