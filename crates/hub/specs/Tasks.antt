-- What a call with a task promises.
use Rattle.std.specs.Prelude.{◌≡◌, ◌≢◌, Some, Result, Ok, Err, IfErr}
use Rattle.terms.specs.declared.name.Inst.{Inst}
use Rattle.terms.specs.declared.event.Event.{Event}
use Rattle.instances.specs.declared.state.State.TheVariants.{Running}
use Rattle.machine.specs.Machine.{RefusesEnd}
use Rattle.commit.specs.declared.error.CoreError.{CoreError}
use Rattle.commit.specs.declared.outcome.Outcome.{Outcome}
use Rattle.commit.specs.Core.{state_of}
use Rattle.commit.specs.Outcome.{IsEndOf}
use Rattle.hub.specs.declared.error.TaskError.{TaskError}
use Rattle.hub.specs.declared.error.TaskError.TheVariants.{Foreign, Refused}
use Rattle.hub.specs.Kept.{Kept}
use Rattle.passes.specs.Known.{Known}
use Rattle.passes.specs.Opening.{Opening}
use Rattle.hub.specs.Replies.{RefusesEvent}

-- One of the two holds: of the task that comes back, or of what the core returns.
abbrev pub OnTask : {T : Type 0} → Result T TaskError → (Inst → Type 0) → (Result T CoreError → Type 0) → Type 0
OnTask (Ok value) foreign answers = answers (Ok value)
OnTask (Err (Refused error)) foreign answers = answers (Err error)
OnTask (Err (Foreign back)) foreign answers = foreign back

-- The task comes back, since its instance does not run here, and nothing has changed.
pub record IsForeign {D : Type 0} (old new : Kept D) (task back : Inst) : Type 0 where
  pub back_is : back ≡ task
  pub not_running : state_of old.core task ≢ Some Running
  pub same : new ≡ old

-- The core's call is made, with a task whose instance runs.
pub record IsMade {D : Type 0} (old : Kept D) (task : Inst) (does : Type 0) : Type 0 where
  pub running : state_of old.core task ≡ Some Running
  pub call : does

-- The core's call with a task is made, and ends so; or the task comes back, and nothing has changed.
abbrev pub CallsWith : {D T : Type 0} → Kept D → Kept D → Inst → (Result T CoreError → Type 0) → Result T TaskError → Type 0
CallsWith old new task ends result = OnTask result (IsForeign old new task) (λ answer. IsMade old task (ends answer))

-- ---- refusals

-- the task comes back, or the core's call is refused for one of these causes
abbrev pub RefusesTask : {T : Type 0} → Inst → (CoreError → Type 0) → Result T TaskError → Type 0
RefusesTask task why result = OnTask result (λ back. back ≡ task) (λ answer. IfErr answer why)

-- an end of the instance is refused with this error in the state that the pass knows
abbrev pub RefusesEndOf : Opening → Known → Inst → Outcome → CoreError → Type 0
RefusesEndOf opening known task outcome error = (end : Event) × IsEndOf outcome task end × RefusesEvent opening known (λ g X. RefusesEnd X) end error
