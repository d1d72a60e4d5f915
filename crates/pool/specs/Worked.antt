-- What workers make of a core, and what a worker knows of a refusal that it met.
use Rattle.disk.specs.declared.storage.Disk.{Ghosts}
use Rattle.std.specs.Prelude.{◌≡◌, ◌⊎◌, Bool, true, false, not, is_some, List, [], ◌∷◌, Option, None, Some, IfSome, ◌<◌, length, Result, Ok, Err, ◌+◌, ◌≤◌, vec_capacity, vec_len}
use Rattle.std.specs.Global.{Box, Vec}
use Rattle.std.specs.List.{AllByRecursion}
use mathlib.Core.List.{IsPrefix}
use Rattle.machine.specs.declared.group.Ended.{Ended}
use Rattle.terms.specs.Commits.{Commit}
use Rattle.terms.specs.Facts.{Fact}
use Rattle.terms.specs.declared.name.Inst.{Inst}
use Rattle.graph.specs.Fits.{InstanceIsOf}
use Rattle.vault.specs.declared.error.VaultError.TheVariants as vault
use Rattle.commit.specs.declared.error.CoreError.{CoreError}
use Rattle.commit.specs.declared.error.CoreError.TheVariants.{Store}
use Rattle.commit.specs.Batch.{Batch, HaveOutcomes, facts_with}
use Rattle.commit.specs.Core.{Core, graph, facts}
use Rattle.commit.specs.Runs.{MetFull, Runs}
use Rattle.hub.specs.declared.error.BatchError.{BatchError}
use Rattle.hub.specs.declared.error.BatchError.TheVariants as batch_error
use Rattle.hub.specs.declared.error.TaskError.{TaskError}
use Rattle.hub.specs.declared.error.TaskError.TheVariants.{Foreign, Refused}
use Rattle.hub.specs.Opening.{facts_behind}
use Rattle.hub.specs.Running.{WaitsIn}
use Rattle.passes.specs.Known.{Known}
use Rattle.passes.specs.Opening.{Opening}
use Rattle.steplang.specs.Running.{Asking, resumed}
use Rattle.pool.specs.declared.hand.Hand.{Hand}
use Rattle.pool.specs.declared.waiting.Waiting.{Waiting}
use Rattle.pool.specs.declared.worker.Met.{Met}
use Rattle.pool.specs.declared.worker.TheConstants.{MOST_KEPT}
use Rattle.pool.specs.declared.worker.Turned.{Turned}
use Rattle.pool.specs.declared.worker.Turned.TheVariants as turned
use Rattle.pool.specs.declared.worker.Met.TheVariants as met
use Rattle.pool.specs.declared.team.Causes.{Causes}

-- what a worker meets by an error
abbrev pub met_by : CoreError → Met
met_by (Store vault.Full) = met.Full
met_by (Store vault.NoMemory) = met.NoMemory
met_by other = met.Other

-- what it meets by the answer of a call that spent its task
abbrev pub met_after : {T : Type 0} → Result T TaskError → Option Met
met_after (Ok value) = None
met_after (Err (Refused error)) = Some (met_by error)
met_after (Err (Foreign back)) = None

-- whether all of a batch came as it is, by the answer of the call that spent it; or what the worker meets
abbrev pub came_after : Result Ended BatchError → Result Bool Met
came_after (Ok ended) = Ok (not (is_some ended.stopped))
came_after (Err (batch_error.Refused error)) = Err (met_by error)
came_after (Err (batch_error.Foreign back)) = Ok false

-- among the commits that a pass has seen there is a prefix after which ends were refused, since their record did not fit
abbrev pub SawFull : Opening → Known → Type 0
SawFull opening known = MetFull opening.graph opening.facts opening.end known.seen

-- a worker that met `Full` saw such a prefix
abbrev pub Justifies : Opening → Option Met → Known → Type 0
Justifies opening result known = result ≡ Some met.Full → SawFull opening known

-- a pass knows the facts of the state that it knew before, and all that a batch puts
abbrev pub HasAll : Opening → Known → Known → Batch → Type 0
HasAll opening old new batch = (fact : Fact) → facts_with (facts_behind opening old.seen) (Some batch) fact ≡ true → facts_behind opening new.seen fact ≡ true

-- ---- turns

-- The results that a worker keeps, if it keeps any: fewer than it claims at once; each outcome is of its instance, over items of the state that its pass knows, or that the
-- results before it put.
pub record AreKeptIn (opening : Opening) (known : Known) (batch : Batch) : Type 0 where
  pub few : length batch.tasks < MOST_KEPT
  pub outcomes : HaveOutcomes opening.graph (facts_behind opening known.seen) batch.tasks batch.outcomes

abbrev pub AreKept : Opening → Known → Option Batch → Type 0
AreKept opening known kept = IfSome kept (AreKeptIn opening known)

-- the instances that a worker has claimed and not begun are of the graph
abbrev pub AreClaimed : Opening → List Inst → Type 0
AreClaimed opening claimed = AllByRecursion (InstanceIsOf opening.graph) claimed

-- A run that asks for an item, of an instance of the graph: what it read are items of a state that is no later than the one after these commits.
pub record WaitsSince (opening : Opening) (seen : List Commit) (asking : Asking) : Type 0 where
  pub some : List Commit
  pub starts : IsPrefix some seen
  pub waits : WaitsIn opening.graph (facts_behind opening some) asking.instance (resumed asking)

-- each run that is kept at one of these places waits so
abbrev pub AreWaitingAt : Opening → List Commit → List (Option (Box Asking)) → Type 0
AreWaitingAt opening seen places = AllByRecursion (λ place. IfSome place (λ run. WaitsSince opening seen run.value)) places

abbrev pub AreWaiting : Opening → List Commit → Waiting → Type 0
AreWaiting opening seen waiting = AreWaitingAt opening seen waiting.places.items

-- what a worker has in hand: the instances that it has claimed, and the runs that it keeps while their instances wait
pub record IsHandOf (opening : Opening) (seen : List Commit) (tasks : List Inst) (runs : Waiting) : Type 0 where
  pub claimed : AreClaimed opening tasks
  pub waiting : AreWaiting opening seen runs

abbrev pub IsHand : Opening → List Commit → Hand → Type 0
IsHand opening seen hand = IsHandOf opening seen hand.claimed hand.waiting

-- a hand has the same instances and runs as before
abbrev pub HasTheSame : Hand → Hand → Type 0
HasTheSame old new = (new.claimed ≡ old.claimed) × (new.waiting ≡ old.waiting)

-- after a turn the worker goes on with what it keeps, or it ends, with `Full` only if its pass saw such a prefix
abbrev pub IsTurned : Opening → Known → Turned → Type 0
IsTurned opening known (turned.GoesOn kept) = AreKept opening known kept
IsTurned opening known (turned.Ends met) = Justifies opening met known

-- it goes on and keeps nothing, unless it met something
abbrev pub turned_by : Option Met → Turned
turned_by None = turned.GoesOn None
turned_by (Some met) = turned.Ends (Some met)

-- ---- the team

-- one of the passes saw such a prefix
abbrev pub OneSawFull : Opening → List Known → Type 0
OneSawFull opening [] = ⊥
OneSawFull opening (known ∷ passes) = SawFull opening known ⊎ OneSawFull opening passes

-- The commits of workers are one run; and where one of them met `Full`, ends were so refused in it.
pub record WorksOn {D : Type 0} (storage : Ghosts D) (old new : Core D) (full : Bool) : Type 0 where
  pub commits : List Commit
  pub runs : Runs storage old new commits
  pub met : full ≡ true → MetFull (graph old) (facts old) old.vault.journal.end commits

-- beside the handles there is room for one of each worker; beside the passes, for one of each worker and of each handle, and for one more
abbrev pub HasRoomForAll : {W H P : Type 0} → Vec W → Vec H → Vec P → Type 0
HasRoomForAll workers handles passes = (vec_len workers + vec_len handles ≤ vec_capacity handles) × (vec_len workers + vec_len handles + vec_len passes + 1 ≤ vec_capacity passes)

-- a stop was asked for only if the probe may answer `Stop`, and a worker met `Full` only if one of the passes saw such a prefix
abbrev pub AreTrueCauses : Bool → Opening → Causes → List Known → Type 0
AreTrueCauses may_stop opening causes passes = (causes.asked ≡ true → may_stop ≡ true) × (causes.full ≡ true → OneSawFull opening passes)
