-- Several outcomes that are committed together: what they say, how far they come, and what is promised of them.
use Rattle.disk.specs.declared.storage.Disk.{Ghosts}
use Rattle.std.specs.Prelude.{◌≡◌, ◌⊎◌, ◌+◌, ◌≤◌, ◌<◌, ◌++◌, ⊤, ℕ, true, false, List, [], ◌∷◌, length, drop, Option, Some, None, Result, Ok, Err, IsErrOf, IfOk, IfErr, OnErr, IsTrue, take}
use Rattle.terms.specs.declared.name.Inst.{Inst}
use Rattle.terms.specs.declared.event.Event.{Event}
use Rattle.terms.specs.declared.event.Event.TheVariants as event
use Rattle.terms.specs.Commits.{Commit}
use Rattle.terms.specs.Facts.{event_facts}
use Rattle.terms.specs.Facts as stated
use Rattle.terms.specs.Sets.{Facts, with_facts}
use Rattle.graph.specs.Graph.{Graph}
use Rattle.graph.specs.Fits.{HasNoFault}
use Rattle.machine.specs.declared.group.Ended.{Ended}
use Rattle.machine.specs.Group.{AreEndedBy, AreRunning, EndsTogether, GivesAllBack, TakesInTurn, cut}
use Rattle.machine.specs.Machine.{Machine, RefusesEnd}
use Rattle.vault.specs.declared.error.VaultError.TheVariants.{Device, NoMemory, Damaged, Full, NotAStore, Halted, Exists}
use Rattle.commit.specs.declared.error.CoreError.{CoreError}
use Rattle.commit.specs.declared.error.CoreError.TheVariants.{Refused, Store}
use Rattle.commit.specs.declared.outcome.Outcome.{Outcome}
use Rattle.commit.specs.declared.outcome.Outcome.TheVariants.{Gave, Fault}
use Rattle.commit.specs.Calls.{AreInDoubt, AreTooLong, CrashLeaves, Halts, Stays, commit_length}
use Rattle.commit.specs.Came.{IsOutcomeIn}
use Rattle.commit.specs.Core.{Core, facts, graph, is_halted}
use Rattle.commit.specs.Runs.{Runs}

-- the instances of a batch, and the outcome of each
pub record Batch : Type 0 where
  pub tasks : List Inst
  pub outcomes : List Outcome

-- the last pair was taken off this batch, and the others are a batch by themselves, if there are any
abbrev pub HavePopped : Batch → Inst → Outcome → Option Batch → Type 0
HavePopped batch task outcome None = (batch.tasks ≡ task ∷ []) × (batch.outcomes ≡ outcome ∷ [])
HavePopped batch task outcome (Some others) = (batch.tasks ≡ others.tasks ++ task ∷ []) × (batch.outcomes ≡ others.outcomes ++ outcome ∷ [])

-- a batch was divided: this many pairs are in the one in front, all that follow are in the one behind
pub record IsDivided (batch : Batch) (count : ℕ) (front behind : Batch) : Type 0 where
  pub tasks : front.tasks ++ behind.tasks ≡ batch.tasks
  pub outcomes : front.outcomes ++ behind.outcomes ≡ batch.outcomes
  pub many_tasks : length front.tasks ≡ count
  pub many_outcomes : length front.outcomes ≡ count

-- a list was divided: the first of it are left, this many or all if it has no more, and the others were taken out
abbrev pub IsCut : {X : Type 0} → ℕ → List X → List X → List X → Type 0
IsCut count all left others = (left ≡ take count all) × (others ≡ drop count all)

-- an instance and its outcome were added behind the others
abbrev pub AddsPair : Batch → Batch → Inst → Outcome → Type 0
AddsPair old new task outcome = (new.tasks ≡ old.tasks ++ task ∷ []) × (new.outcomes ≡ old.outcomes ++ outcome ∷ [])

-- ---- what the outcomes say

-- the end of an instance, as its body came to it: it is done, with what its body gave; or it is at fault, as its body is
abbrev pub end_said : Inst → Outcome → Event
end_said instance (Gave given) = event.Done instance given.puts
end_said instance (Fault bad) = event.Stopped instance bad.kind

-- the ends of these instances, each by the outcome at its place
abbrev pub ends_by : List Inst → List Outcome → List Event
ends_by [] outcomes = []
ends_by (task ∷ tasks) [] = []
ends_by (task ∷ tasks) (outcome ∷ outcomes) = end_said task outcome ∷ ends_by tasks outcomes

abbrev pub ends_said : Batch → List Event
ends_said batch = ends_by batch.tasks batch.outcomes

-- each instance has the outcome at its place, over the items of the set and those that the outcomes before it put
abbrev pub HaveOutcomes : Graph → Facts → List Inst → List Outcome → Type 0
HaveOutcomes g X [] [] = ⊤
HaveOutcomes g X [] (outcome ∷ outcomes) = ⊥
HaveOutcomes g X (task ∷ tasks) [] = ⊥
HaveOutcomes g X (task ∷ tasks) (outcome ∷ outcomes) = IsOutcomeIn g X task outcome × HaveOutcomes g (with_facts X (event_facts (end_said task outcome))) tasks outcomes

-- the facts of the set, and those that a batch says, if there is one
abbrev pub facts_with : Facts → Option Batch → Facts
facts_with X None = X
facts_with X (Some batch) = with_facts X (stated.facts (ends_said batch))

-- What a finish of several requires: each instance runs here, none is listed twice, and each outcome is of its instance, over the items that are here and those that
-- the outcomes before it put.
pub record AreOutcomesOf {D : Type 0} (c : Core D) (batch : Batch) : Type 0 where
  pub running : AreRunning c.machine batch.tasks
  pub outcomes : HaveOutcomes (graph c) (facts c) batch.tasks batch.outcomes

-- ---- what is committed

-- What of these ends is tried as one commit: as far as they come together; or nothing, if an error came before that was known.
abbrev pub TriesTogether : {D : Type 0} → Core D → List Event → Commit → Type 0
TriesTogether c ends commit = (commit ≡ []) ⊎ ((ended : Ended) × EndsTogether (graph c) (facts c) ends ended × (commit ≡ cut ended ends))

-- The commit was taken: into the state in memory, one end after another, and into the journal of the live side, which ends after its record now. The
-- instances after those that it ends are ready again.
pub record TakesAll {D : Type 0} (old new : Core D) (tasks : List Inst) (commit : Commit) : Type 0 where
  pub mid : Machine
  pub takes : TakesInTurn old.machine commit mid
  pub rest : GivesAllBack mid new.machine (drop (length commit) tasks)
  pub working : (is_halted old ≡ false) × (is_halted new ≡ false)
  pub moved : new.vault.journal.end ≡ old.vault.journal.end + commit_length commit
  pub latest : new.latest ≡ commit
  pub allowance : new.allowance + length commit ≡ old.allowance
  pub generation : new.vault.generation ≡ old.vault.generation

-- at `Ok`: the answer says how far the ends come together, all that comes is the commit, and it was taken
pub record EndsAsAnswered {D : Type 0} (old new : Core D) (tasks : List Inst) (ends : List Event) (commit : Commit) (ended : Ended) : Type 0 where
  pub together : EndsTogether (graph old) (facts old) ends ended
  pub commit_is : commit ≡ cut ended ends
  pub takes : TakesAll old new tasks commit

-- all of these instances are ready again, and no other has changed its state; no fact has changed, and nothing was committed
pub record GivesBackAll {D : Type 0} (old new : Core D) (tasks : List Inst) : Type 0 where
  pub stays : Stays old new
  pub machine : GivesAllBack old.machine new.machine tasks

-- ---- refusals

-- Why the ends are refused, of which this was tried as one commit. A halted core returns `Halted`, and nothing else. In a store with a fault no
-- instance may end. Ends that may come are refused if their record does not fit, if the device failed, or if memory was refused.
abbrev pub RefusesAll : {D : Type 0} → Core D → Commit → CoreError → Type 0
RefusesAll c commit (Refused refusal) = (is_halted c ≡ false) × RefusesEnd (facts c) refusal
RefusesAll c commit (Store Halted) = is_halted c ≡ true
RefusesAll c commit (Store Full) = (is_halted c ≡ false) × (0 < length commit) × AreTooLong c commit
RefusesAll c commit (Store Device) = (is_halted c ≡ false) × (0 < length commit)
RefusesAll c commit (Store NoMemory) = (is_halted c ≡ false) × HasNoFault (facts c)
RefusesAll c commit (Store (Damaged side place)) = ⊥
RefusesAll c commit (Store NotAStore) = ⊥
RefusesAll c commit (Store Exists) = ⊥

-- if the record of what was tried does not fit, `Full` is returned, or `NoMemory` if memory was refused first
abbrev pub TellsFullAll : {D T : Type 0} → Core D → Commit → Result T CoreError → Type 0
TellsFullAll c commit result = 0 < length commit → AreTooLong c commit → IsErrOf result (Store Full) ⊎ IsErrOf result (Store NoMemory)

-- why they are refused before anything is tried
abbrev pub RefusesAllFirst : {D : Type 0} → Core D → CoreError → Type 0
RefusesAllFirst c (Refused refusal) = (is_halted c ≡ false) × RefusesEnd (facts c) refusal
RefusesAllFirst c (Store Halted) = is_halted c ≡ true
RefusesAllFirst c (Store NoMemory) = (is_halted c ≡ false) × HasNoFault (facts c)
RefusesAllFirst c (Store other) = ⊥

-- ---- the call

-- what committing ends of the first of the tasks requires: there are some, and all of the instances run
pub record EndTheFirst {D : Type 0} (c : Core D) (tasks : List Inst) (ends : List Event) : Type 0 where
  pub ended : AreEndedBy ends tasks
  pub running : AreRunning c.machine tasks
  pub some : 1 ≤ length ends

-- why a call refuses these ends, and when it says that their records do not fit
pub record RefusesEndsAs {D T : Type 0} (c : Core D) (ends : List Event) (result : Result T CoreError) : Type 0 where
  pub refused : IfErr result (RefusesAll c ends)
  pub full : TellsFullAll c ends result

-- These ends are committed as one at `Ok`, as far as they come together, or refused. At each moment a crash leaves the facts before the commit or those
-- after it. What is tried is in doubt if the call halted the core.
pub record FinishesAll {D : Type 0} (storage : Ghosts D) (old new : Core D) (tasks : List Inst) (ends : List Event) (result : Result Ended CoreError) : Type 0 where
  pub commit : Commit
  pub tried : TriesTogether old ends commit
  pub answered : IfOk result (EndsAsAnswered old new tasks ends commit)
  pub refused : IfErr result (RefusesAll old commit)
  pub full : TellsFullAll old commit result
  pub doubt : AreInDoubt old new commit result × OnErr result (is_halted old ≡ false → is_halted new ≡ true → 0 < length commit)
  pub moments : IsTrue storage.is_honest → is_halted old ≡ false → CrashLeaves storage old new commit

-- it is a run by itself: of one commit at `Ok`, and of none at an error
abbrev pub AllRun : {D : Type 0} → Ghosts D → (old new : Core D) → List Event → Result Ended CoreError → Type 0
AllRun storage old new ends (Ok ended) = Runs storage old new (cut ended ends ∷ [])
AllRun storage old new ends (Err error) = Runs storage old new []

-- What a finish of several promises of these ends of the instances: they are committed as far as they come together, or refused; at an error each instance is ready; and it is
-- a run by itself.
pub record EndsAll {D : Type 0} (storage : Ghosts D) (old new : Core D) (tasks : List Inst) (ends : List Event) (result : Result Ended CoreError) : Type 0 where
  pub finishes : FinishesAll storage old new tasks ends result
  pub err : OnErr result (GivesBackAll old new tasks)
  pub halts : Halts storage old new result
  pub runs : is_halted old ≡ false → AllRun storage old new ends result
