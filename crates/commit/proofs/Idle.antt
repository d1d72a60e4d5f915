-- If one instance runs alone, none runs after its end, or after it is given back, or waits.
use Rattle.std.proofs.Common.{◌≡◌, ◌≢◌, ◌∙◌, ap, refl, sym, subst, inl, inr, Option, Some, None}
use Rattle.terms.specs.declared.name.Addr.{Addr}
use Rattle.terms.specs.declared.name.Inst.{Inst}
use Rattle.terms.specs.declared.event.Event.{Event}
use Rattle.terms.specs.declared.event.Event.TheVariants as event
use Rattle.terms.specs.Sets.{Facts}
use Rattle.instances.specs.declared.state.State.{State}
use Rattle.instances.specs.declared.state.State.TheVariants.{Ready, Running, Waiting, Done}
use Rattle.machine.specs.Machine.{Ends, EndsAs, GoesOn, Machine}
use Rattle.machine.specs.Machine as machine
use Rattle.machine.specs.Memory.{facts_of}
use Rattle.commit.specs.declared.outcome.Outcome.{Outcome}
use Rattle.commit.specs.declared.outcome.Outcome.TheVariants.{Gave, Fault}
use Rattle.commit.specs.Calls.{GivesBack}
use Rattle.commit.specs.Core.{Core, state_of}
use Rattle.commit.specs.Outcome.{IsEndOf}
use Rattle.commit.specs.Runs.{NoneRuns}
use Rattle.commit.specs.Steps.{Moves}

-- the event of an outcome ends its instance
pub ends : (outcome : Outcome) (instance : Inst) (end : Event) → IsEndOf outcome instance end → Ends end instance
ends (Gave given) instance end is = elim is [ inl done ↦ subst (λ (e : Event). Ends e instance) (sym done) refl | inr stopped ↦ subst (λ (e : Event). Ends e instance) (sym stopped) refl ]
ends (Fault bad) instance end is = subst (λ (e : Event). Ends e instance) (sym is) refl

-- an instance that the event ends does not run
pub not_running : (m : Machine) (end : Event) (instance : Inst) → EndsAs m end → Ends end instance → machine.state_of m instance ≢ Some Running
not_running m (event.EnvItem address value) instance ends_as is runs = is
not_running m (event.EnvTag name) instance ends_as is runs = is
not_running m (event.Done ended puts) instance ends_as is runs = apart (sym (subst (λ (i : Inst). machine.state_of m i ≡ Some Done) is ends_as) ∙ runs)
  where
    apart : Some Done ≡ Some Running → ⊥
    apart same = cc
not_running m (event.Stopped ended kind) instance ends_as is runs = apart (sym (subst (λ (i : Inst). machine.state_of m i ≡ Some Ready) is ends_as) ∙ runs)
  where
    apart : Some Ready ≡ Some Running → ⊥
    apart same = cc

-- an instance that the event does not end runs only if it ran
no_state : ◌≡◌ {A = Option State} None (Some Running) → ⊥
no_state same = cc

is_ready : Some Ready ≡ Some Running → ⊥
is_ready same = cc

is_done : Some Done ≡ Some Running → ⊥
is_done same = cc

waits : (address : Addr) → Some (Waiting address) ≡ Some Running → ⊥
waits address same = cc

pub goes_on : (X : Facts) (from to : Option State) → GoesOn X from to → to ≡ Some Running → from ≡ Some Running
goes_on X None to (inl is) runs = absurd (no_state (sym is ∙ runs))
goes_on X None to (inr is) runs = absurd (is_ready (sym is ∙ runs))
goes_on X (Some (Waiting address)) to (inl is) runs = absurd (waits address (sym is.1 ∙ runs))
goes_on X (Some (Waiting address)) to (inr is) runs = absurd (is_ready (sym is.1 ∙ runs))
goes_on X (Some Ready) to is runs = absurd (is_ready (sym is ∙ runs))
goes_on X (Some Running) to is runs = refl
goes_on X (Some Done) to is runs = absurd (is_done (sym is ∙ runs))

module _ {D : Type 0} (old new : Core D) (task : Inst) (alone : (instance : Inst) → instance ≢ task → state_of old instance ≢ Some Running) where
  pub behind_end : (end : Event) → Ends end task → machine.Takes old.machine new.machine end → NoneRuns new
  behind_end end of_task takes instance runs =
      let other : Ends end instance → ⊥ = λ is. not_running new.machine end instance takes.ends is runs in
      let ran = goes_on (facts_of new.machine.memory) (state_of old instance) (state_of new instance) (takes.states instance other) runs in
      alone instance (λ is. other (subst (λ (i : Inst). Ends end i) (sym is) of_task)) ran

  elsewhere : (to : State) → to ≢ Running → state_of new task ≡ Some to → ((other : Inst) → other ≢ task → state_of new other ≡ state_of old other) → NoneRuns new
  elsewhere to another here others instance runs =
      let other : instance ≢ task = λ is. another (same (sym here ∙ ap (λ (i : Inst). state_of new i) (sym is) ∙ runs)) in
      alone instance other (sym (others instance other) ∙ runs)
    where
      same : Some to ≡ Some Running → to ≡ Running
      same is = cc

  pub behind_move : (to : State) → to ≢ Running → Moves old new task to → NoneRuns new
  behind_move to not_running moves = elsewhere to not_running moves.machine.here moves.machine.others

  pub given_back : GivesBack old new task → NoneRuns new
  given_back back = elsewhere Ready not_running back.ready back.others
    where
      not_running : Ready ≡ Running → ⊥
      not_running is = cc
