-- What an instance came to, and the event that says so.
use Rattle.disk.specs.declared.storage.Disk.{Ghosts}
use Rattle.std.specs.Prelude.{◌≡◌, ◌⊎◌, List, Result, IfOk}
use Rattle.terms.specs.declared.fault.FaultKind.TheVariants.{DoublePut}
use Rattle.terms.specs.declared.name.Inst.{Inst}
use Rattle.terms.specs.declared.event.Event.{Event}
use Rattle.terms.specs.declared.event.Event.TheVariants as event
use Rattle.terms.specs.declared.put.Put.{Put}
use Rattle.machine.specs.Machine.{RefusesEnd}
use Rattle.commit.specs.Came.{IsOutcomeIn}
use Rattle.commit.specs.declared.error.CoreError.{CoreError}
use Rattle.commit.specs.Calls.{Commits}
use Rattle.commit.specs.declared.outcome.Outcome.{Outcome}
use Rattle.commit.specs.declared.outcome.Outcome.TheVariants.{Gave, Fault}
use Rattle.commit.specs.declared.outcome.Committed.{Committed}
use Rattle.commit.specs.declared.outcome.Committed.TheVariants.{Done, Stopped}
use Rattle.commit.specs.Core.{Core, graph, facts}

-- What a finish requires of its outcome: it is of this instance and of the body of its step, and the items that it read are items here.
abbrev pub IsOutcomeOf : {D : Type 0} → Core D → Inst → Outcome → Type 0
IsOutcomeOf c instance outcome = IsOutcomeIn (graph c) (facts c) instance outcome

-- the ways in which an instance ends whose body gave these puts
abbrev pub IsEndOfGiven : Inst → List Put → Event → Type 0
IsEndOfGiven instance puts end = (end ≡ event.Done instance puts) ⊎ (end ≡ event.Stopped instance DoublePut)

-- The event by which the instance ends: it is done with the puts that its body gave, or stopped by a double put of them; or it is stopped by its
-- body's fault. The facts decide which of the first two is legal.
abbrev pub IsEndOf : Outcome → Inst → Event → Type 0
IsEndOf (Gave given) instance end = IsEndOfGiven instance given.puts end
IsEndOf (Fault bad) instance end = end ≡ event.Stopped instance bad.kind

-- What a finish commits when it returns this: that the instance is done, with the puts that its body gave, or that it is at fault. (`Done` is never
-- returned for an instance whose body is at fault.)
abbrev pub end_of : Committed → Inst → Outcome → Event
end_of Done instance (Gave given) = event.Done instance given.puts
end_of Done instance (Fault bad) = event.Stopped instance bad.kind
end_of (Stopped kind) instance outcome = event.Stopped instance kind

-- the result says what was committed
abbrev pub Tells : Committed → Event → Type 0
Tells Done end = (instance : Inst) × (puts : List Put) × (end ≡ event.Done instance puts)
Tells (Stopped kind) end = (instance : Inst) × (end ≡ event.Stopped instance kind)

-- One of these ends is committed at `Ok`, as the result says, or refused.
pub record EndsGiven {D : Type 0} (storage : Ghosts D) (old new : Core D) (instance : Inst) (puts : List Put) (result : Result Committed CoreError) : Type 0 where
  pub end : Event
  pub is_end : IsEndOfGiven instance puts end
  pub commits : Commits storage old new (RefusesEnd (facts old)) end result
  pub told : IfOk result (λ committed. Tells committed end)

-- An end of the instance is committed at `Ok`, as the result says, or refused.
pub record Finishes {D : Type 0} (storage : Ghosts D) (old new : Core D) (instance : Inst) (outcome : Outcome) (result : Result Committed CoreError) : Type 0 where
  pub end : Event
  pub is_end : IsEndOf outcome instance end
  pub commits : Commits storage old new (RefusesEnd (facts old)) end result
  pub told : IfOk result (λ committed. Tells committed end)
