-- Of instances that run, each listed once: which of them run after one of them ended or was given back, and how many.
use Rattle.std.proofs.Common.{◌≡◌, ◌≢◌, ◌∙◌, ◌+◌, ◌≤◌, ap, sym, refl, subst, inl, inr, ℕ, false, List, [], ◌∷◌, drop, Option, None, Some, IsSome, MatchOption, arith}
use Rattle.std.proofs.lemmas.Bool.{false≢true, or_parts}
use Rattle.std.specs.Cmp.{IsTotalOrder}
use Rattle.std.specs.FinMap.{IsAntisymmetric}
use Rattle.std.specs.List.{AllByRecursion}
use Rattle.std.specs.Ordering.{eq_by_cmp}
use Rattle.terms.specs.declared.name.Addr.{Addr}
use Rattle.terms.specs.declared.name.Inst.{Inst}
use Rattle.terms.specs.declared.event.Event.{Event}
use Rattle.terms.specs.declared.event.Event.TheVariants as event
use Rattle.terms.specs.Name.{inst_cmp}
use Rattle.terms.specs.Sets.{Facts}
use Rattle.items.specs.Once.{is_one_of}
use Rattle.instances.specs.declared.state.State.{State}
use Rattle.instances.specs.declared.state.State.TheVariants.{Ready, Running, Waiting, Done}
use Rattle.instances.specs.OfStep.{is_running, one_if}
use Rattle.instances.specs.Running.{OneLessRuns}
use Rattle.machine.specs.Group.{AreEndedBy, AreRunning}
use Rattle.machine.specs.GroupLaws.{RunInTurn}
use Rattle.machine.specs.GroupTaking.{TakesFirst}
use Rattle.machine.specs.Machine.{Ends, EndsAs, GoesOn, Machine, Moves, Takes, running_count, state_of}
use Rattle.machine.specs.Memory.{facts_of}
use Rattle.machine.proofs.Woken.{itself}

-- ---- after an event

-- an instance that the event ends does not run
pub not_running : (m : Machine) (end : Event) (instance : Inst) → EndsAs m end → Ends end instance → state_of m instance ≢ Some Running
not_running m (event.EnvItem address value) instance ends_as is runs = is
not_running m (event.EnvTag name) instance ends_as is runs = is
not_running m (event.Done ended puts) instance ends_as is runs = apart (sym (subst (λ (i : Inst). state_of m i ≡ Some Done) is ends_as) ∙ runs)
  where
    apart : Some Done ≡ Some Running → ⊥
    apart same = cc
not_running m (event.Stopped ended kind) instance ends_as is runs = apart (sym (subst (λ (i : Inst). state_of m i ≡ Some Ready) is ends_as) ∙ runs)
  where
    apart : Some Ready ≡ Some Running → ⊥
    apart same = cc

no_state : ◌≡◌ {A = Option State} None (Some Running) → ⊥
no_state same = cc

is_ready : Some Ready ≡ Some Running → ⊥
is_ready same = cc

is_done : Some Done ≡ Some Running → ⊥
is_done same = cc

waits : (address : Addr) → Some (Waiting address) ≡ Some Running → ⊥
waits address same = cc

-- an instance that the event does not end runs only if it ran
pub goes_on : (X : Facts) (from to : Option State) → GoesOn X from to → to ≡ Some Running → from ≡ Some Running
goes_on X None to (inl is) runs = absurd (no_state (sym is ∙ runs))
goes_on X None to (inr is) runs = absurd (is_ready (sym is ∙ runs))
goes_on X (Some (Waiting address)) to (inl is) runs = absurd (waits address (sym is.1 ∙ runs))
goes_on X (Some (Waiting address)) to (inr is) runs = absurd (is_ready (sym is.1 ∙ runs))
goes_on X (Some Ready) to is runs = absurd (is_ready (sym is ∙ runs))
goes_on X (Some Running) to is runs = refl
goes_on X (Some Done) to is runs = absurd (is_done (sym is ∙ runs))

-- after the end of an instance at least one fewer runs
pub one_less : OneLessRuns → (old new : Machine) (event : Event) (task : Inst) → Ends event task → state_of old task ≡ Some Running → Takes old new event → running_count new + 1 ≤ running_count old
one_less law old new event task ends ran takes = law old.memory.instances new.memory.instances task ran each
  where
    not_ended : (instance : Inst) → state_of new instance ≡ Some Running → Ends event instance → ⊥
    not_ended instance runs is = not_running new event instance takes.ends is runs

    each : (instance : Inst) → state_of new instance ≡ Some Running → (instance ≢ task) × (state_of old instance ≡ Some Running)
    each instance runs = (
      λ is. not_ended instance runs (subst (λ (i : Inst). Ends event i) (sym is) ends),
      goes_on (facts_of new.memory) (state_of old instance) (state_of new instance) (takes.states instance (not_ended instance runs)) runs,
    )

-- an event ends one instance
ends_one : (event : Event) (one other : Inst) → Ends event one → Ends event other → other ≡ one
ends_one (event.EnvItem address value) one other is are = absurd is
ends_one (event.EnvTag name) one other is are = absurd is
ends_one (event.Done ended puts) one other is are = sym are ∙ is
ends_one (event.Stopped ended kind) one other is are = sym are ∙ is

-- ---- after an instance was given back

one_less_counted : (now before was : ℕ) → was ≡ 1 → now + was ≡ before + 0 → now + 1 ≤ before
one_less_counted now before was one counts = omega (arith, one, counts)

pub one_given_back : (old new : Machine) (task : Inst) → state_of old task ≡ Some Running → Moves old new task Ready → running_count new + 1 ≤ running_count old
one_given_back old new task ran moves = one_less_counted (running_count new) (running_count old) (one_if is_running (state_of old task)) (ap (one_if is_running) ran) (moves.counts is_running)

-- ---- the instances behind the first one

module _ (total : IsTotalOrder inst_cmp) (tie : IsAntisymmetric inst_cmp) where
  pub apart : (one other : Inst) → eq_by_cmp inst_cmp one other ≡ false → other ≢ one
  apart one other differs same = false≢true (sym differs ∙ ap (eq_by_cmp inst_cmp one) same ∙ itself total tie one)

  all_stay : (old new : Machine) (ended : Inst) → ((other : Inst) → other ≢ ended → state_of old other ≡ Some Running → state_of new other ≡ Some Running)
      → (list : List Inst) → is_one_of ended list ≡ false → AllByRecursion (λ i. state_of old i ≡ Some Running) list → AllByRecursion (λ i. state_of new i ≡ Some Running) list
  all_stay old new ended stays [] absent all = tt
  all_stay old new ended stays (first ∷ others) absent all =
      let parts = or_parts (eq_by_cmp inst_cmp ended first) (is_one_of ended others) absent in
      (stays first (apart ended first parts.0) all.0, all_stay old new ended stays others parts.1 all.1)

  -- if all but the first run as before, those behind it still run
  pub still_running : (old new : Machine) (ended : Inst) (list : List Inst) → ((other : Inst) → other ≢ ended → state_of old other ≡ Some Running → state_of new other ≡ Some Running)
      → AreRunning old (ended ∷ list) → AreRunning new list
  still_running old new ended list stays running = record { each = all_stay old new ended stays list running.once.0 running.each.1; once = running.once.1 }

  -- the end of the first one is taken
  pub first_taken : OneLessRuns → RunInTurn → (old new : Machine) (instances left : List Inst) (task : Inst) (event : Event)
      → instances ≡ task ∷ left → Ends event task → AreRunning old instances → Takes old new event → TakesFirst old instances event new left
  first_taken fewer stays old new instances left task event is ends running takes =
      let here : AreRunning old (task ∷ left) = subst (AreRunning old) is running in record {
        takes = takes;
        rest = sym (ap (drop 1) is);
        running = still_running old new task left (λ other differs runs. stays old new event other takes (λ ends_it. differs (ends_one event task other ends ends_it)) runs) here;
        counted = one_less fewer old new event task ends here.each.0 takes;
      }

-- ---- the first of some instances

-- there is a first one, if an event ends it
pub there_is_one : (event : Event) (taken : Option Inst) (instances left : List Inst) → MatchOption taken ((instances ≡ []) × (left ≡ [])) (λ task. instances ≡ task ∷ left) → AreEndedBy (event ∷ []) instances → IsSome taken
there_is_one event (Some task) instances left is ended = refl
there_is_one event None instances left is ended = absurd (subst (AreEndedBy (event ∷ [])) is.0 ended)

-- it is in front of what is left
pub in_front : (taken : Option Inst) (task : Inst) (instances left : List Inst) → taken ≡ Some task → MatchOption taken ((instances ≡ []) × (left ≡ [])) (λ task. instances ≡ task ∷ left) → instances ≡ task ∷ left
in_front taken task instances left same is = subst (λ (o : Option Inst). MatchOption o ((instances ≡ []) × (left ≡ [])) (λ task. instances ≡ task ∷ left)) same is

-- the event in front ends it
pub ends_first : (event : Event) (instances left : List Inst) (task : Inst) → instances ≡ task ∷ left → AreEndedBy (event ∷ []) instances → Ends event task
ends_first event instances left task is ended = let here : AreEndedBy (event ∷ []) (task ∷ left) = subst (AreEndedBy (event ∷ [])) is ended in here.0

pub runs_first : (m : Machine) (instances left : List Inst) (task : Inst) → instances ≡ task ∷ left → AreRunning m instances → state_of m task ≡ Some Running
runs_first m instances left task is running = let here : AreRunning m (task ∷ left) = subst (AreRunning m) is running in here.each.0
