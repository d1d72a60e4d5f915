-- Several instances that are claimed one after another.
use Rattle.std.specs.Prelude.{◌≡◌, ◌≢◌, ◌⊎◌, ◌↔◌, ◌≤◌, ◌<◌, ◌++◌, ◌∷◌, [], ℕ, Bool, true, false, List, length, Some, Result, Ok, Err, IfOk, IfErr, IsErrOf}
use Rattle.std.specs.List.{AllByRecursion}
use Rattle.terms.specs.declared.name.Inst.{Inst}
use Rattle.instances.specs.declared.state.State.TheVariants.{Ready, Running}
use Rattle.vault.specs.declared.error.VaultError.TheVariants.{Halted, NoMemory}
use Rattle.commit.specs.declared.error.CoreError.{CoreError}
use Rattle.commit.specs.declared.error.CoreError.TheVariants.{Store}
use Rattle.commit.specs.Core.{Core, is_halted, state_of}
use Rattle.commit.specs.Steps.{MayClaim, Moves, running_count}
use Rattle.passes.specs.Known.{Known}
use Rattle.passes.specs.Opening.{Opening}
use Rattle.hub.specs.Replies.{MayRun}

-- no more than `most` tasks were added behind the others, each of an instance that may be run in the state that the pass knows
pub record AddsClaimed (opening : Opening) (known : Known) (most : ℕ) (old new : List Inst) : Type 0 where
  pub more : List Inst
  pub added : new ≡ old ++ more
  pub few : length more ≤ most
  pub may_run : AllByRecursion (MayRun opening known) more

-- which errors claims end with: the core is halted, or there is no memory for a task
abbrev pub RefusesClaims : CoreError → Type 0
RefusesClaims error = (error ≡ Store Halted) ⊎ (error ≡ Store NoMemory)

-- ---- under the lock

-- a ready instance may be claimed in a working core, and runs now
pub record Starts {D : Type 0} (old new : Core D) (task : Inst) : Type 0 where
  pub working : is_halted old ≡ false
  pub may : MayClaim old 0
  pub ready : state_of old task ≡ Some Ready
  pub moves : Moves old new task Running

-- these start one after another
abbrev pub StartInTurn : {D : Type 0} → Core D → List Inst → Core D → Type 0
StartInTurn old [] new = new ≡ old
StartInTurn {D = D} old (task ∷ tasks) new = (mid : Core D) × Starts old mid task × StartInTurn mid tasks new

-- Why a claim is refused, and what it leaves: the core is halted, and nothing has changed; or there is no memory for the task of an instance that started, and the
-- instance is ready again.
abbrev pub RefusesClaim : {D : Type 0} → Core D → Core D → CoreError → Type 0
RefusesClaim {D = D} old new error = ((error ≡ Store Halted) × (is_halted old ≡ true) × (new ≡ old)) ⊎ ((error ≡ Store NoMemory) × ((task : Inst) × (mid : Core D) × Starts old mid task × Moves mid new task Ready))

-- one claim: its task was added, or there is none to be claimed, or it is refused
abbrev pub ClaimsOne : {D : Type 0} → Opening → Known → Core D → Core D → (before after : List Inst) → Result Bool CoreError → Type 0
ClaimsOne opening known old new before after (Ok true) = (task : Inst) × (after ≡ before ++ task ∷ []) × Starts old new task × MayRun opening known task
ClaimsOne opening known old new before after (Ok false) = (after ≡ before) × (new ≡ old) × (is_halted old ≡ false) × (MayClaim old 0 → ⊥)
ClaimsOne opening known old new before after (Err error) = (after ≡ before) × RefusesClaim old new error

-- Several claims, of these instances. At `Ok` it is said whether an instance runs then; and if none was claimed although one was asked for, none could be.
pub record ClaimsSome {D : Type 0} (old new : Core D) (most : ℕ) (more : List Inst) (result : Result Bool CoreError) : Type 0 where
  pub last : Core D
  pub start : StartInTurn old more last
  pub ok : IfOk result (λ runs. (new ≡ last) × ((runs ≡ true) ↔ (running_count new ≢ 0)) × (more ≡ [] → 0 < most → MayClaim old 0 → ⊥))
  pub err : IfErr result (RefusesClaim last new)
  pub halted : is_halted old ≡ true → 0 < most → IsErrOf result (Store Halted)

-- several claims, of the instances whose tasks were added behind the others
abbrev pub ClaimsInto : {D : Type 0} → Opening → Known → Core D → Core D → ℕ → (before after : List Inst) → Result Bool CoreError → Type 0
ClaimsInto opening known old new most before after result = (adds : AddsClaimed opening known most before after) × ClaimsSome old new most adds.more result
