-- After each change of a machine at most as many instances run as the allowance.
use Rattle.std.proofs.Common.{◌≡◌, ◌≢◌, ◌∙◌, ◌+◌, ◌<◌, ◌≤◌, ap, sym, refl, subst, inl, inr, ℕ, false, cond, Option, None, Some, IfSome, arith}
use Rattle.terms.specs.declared.name.Addr.{Addr}
use Rattle.terms.specs.declared.name.Inst.{Inst}
use Rattle.terms.specs.declared.event.Event.{Event}
use Rattle.terms.specs.declared.event.Event.TheVariants as event
use Rattle.instances.specs.declared.state.State.{State}
use Rattle.instances.specs.declared.state.State.TheVariants.{Ready, Running, Waiting}
use Rattle.instances.specs.OfStep.{is_running, one_if}
use Rattle.instances.specs.Running.{NoMoreRun, OneLessRuns, OneRuns}
use Rattle.machine.specs.Machine.{Ends, IsPut, LooksAgain, Machine, Moves, Takes, running_count, state_of}
use Rattle.machine.specs.Memory.{facts_of}
use Rattle.machine.specs.Restored.{IsReadyOrDone}
use Rattle.machine.specs.Status.{AreCounted}
use Rattle.commit.specs.Calls.{step_count}
use Rattle.commit.proofs.Counted.{none_runs}
use Rattle.commit.proofs.Idle.{goes_on, not_running}

-- ---- numbers

no_more : (now before allowance : ℕ) → now ≤ before → before ≤ allowance → now ≤ allowance
no_more now before allowance fewer allowed = omega (arith, fewer, allowed)

one_less : (now before allowance left : ℕ) → now + 1 ≤ before → before ≤ allowance → left + 1 ≡ allowance → now ≤ left
one_less now before allowance left fewer allowed spent = omega (arith, fewer, allowed, spent)

no_more_moved : (now before was : ℕ) → now + was ≡ before + 0 → now ≤ before
no_more_moved now before was counts = omega (arith, counts)

one_more : (now before was allowance : ℕ) → now + was ≡ before + 1 → before < allowance → now ≤ allowance
one_more now before was allowance counts allowed = omega (arith, counts, allowed)

-- ---- events

-- the environment ends no instance
ends_none : (event : Event) → IsPut event → (instance : Inst) → Ends event instance → ⊥
ends_none (event.EnvItem address value) put instance ends = ends
ends_none (event.EnvTag name) put instance ends = ends
ends_none (event.Done ended puts) put instance ends = put
ends_none (event.Stopped ended kind) put instance ends = put

-- a put of the environment uses nothing of the allowance, and an end uses one
pub costs_nothing : (event : Event) → IsPut event → step_count event ≡ 0
costs_nothing (event.EnvItem address value) put = refl
costs_nothing (event.EnvTag name) put = refl
costs_nothing (event.Done ended puts) put = absurd put
costs_nothing (event.Stopped ended kind) put = absurd put

pub end_costs_one : (event : Event) (task : Inst) → Ends event task → step_count event ≡ 1
end_costs_one (event.EnvItem address value) task ends = absurd ends
end_costs_one (event.EnvTag name) task ends = absurd ends
end_costs_one (event.Done ended puts) task ends = refl
end_costs_one (event.Stopped ended kind) task ends = refl

-- an instance that runs after an event, and does not end by it, ran before
ran_before : (m n : Machine) (event : Event) → Takes m n event → (instance : Inst) → (Ends event instance → ⊥) → state_of n instance ≡ Some Running → state_of m instance ≡ Some Running
ran_before m n event takes instance other runs = goes_on (facts_of n.memory) (state_of m instance) (state_of n instance) (takes.states instance other) runs

pub behind_put : NoMoreRun → (m n : Machine) (event : Event) (allowance : ℕ) → IsPut event → Takes m n event → running_count m ≤ allowance → running_count n ≤ allowance
behind_put law m n event allowance put takes allowed =
    no_more (running_count n) (running_count m) allowance
    (law m.memory.instances n.memory.instances (λ instance runs. ran_before m n event takes instance (ends_none event put instance) runs)) allowed

pub behind_end : OneLessRuns → (m n : Machine) (event : Event) (task : Inst) (allowance left : ℕ)
    → Ends event task → state_of m task ≡ Some Running → Takes m n event → running_count m ≤ allowance → left + 1 ≡ allowance → running_count n ≤ left
behind_end law m n event task allowance left ends ran takes allowed spent =
    one_less (running_count n) (running_count m) allowance left (law m.memory.instances n.memory.instances task ran each) allowed spent
  where
    not_ended : (instance : Inst) → state_of n instance ≡ Some Running → Ends event instance → ⊥
    not_ended instance runs is = not_running n event instance takes.ends is runs

    each : (instance : Inst) → state_of n instance ≡ Some Running → (instance ≢ task) × (state_of m instance ≡ Some Running)
    each instance runs = (λ is. not_ended instance runs (subst (λ (i : Inst). Ends event i) (sym is) ends), ran_before m n event takes instance (not_ended instance runs) runs)

-- if an instance runs, something is left of the allowance
pub some_left : OneRuns → (m : Machine) (task : Inst) (allowance : ℕ) → state_of m task ≡ Some Running → running_count m ≤ allowance → 0 < allowance
some_left law m task allowance runs allowed = let one : 1 ≤ running_count m = law m.memory.instances task runs in no_more 1 (running_count m) allowance one allowed

-- ---- changes without an event

pub behind_room : NoMoreRun → (m n : Machine) (allowance : ℕ) → ((instance : Inst) → state_of n instance ≡ state_of m instance) → running_count m ≤ allowance → running_count n ≤ allowance
behind_room law m n allowance same allowed =
    no_more (running_count n) (running_count m) allowance (law m.memory.instances n.memory.instances (λ instance runs. sym (same instance) ∙ runs)) allowed

pub behind_nothing : (m n : Machine) (allowance : ℕ) → n ≡ m → running_count m ≤ allowance → running_count n ≤ allowance
behind_nothing m n allowance same allowed = subst (λ (k : Machine). running_count k ≤ allowance) (sym same) allowed

-- an instance comes into a state other than running
pub behind_move : (m n : Machine) (instance : Inst) (to : State) (allowance : ℕ) → is_running to ≡ false → Moves m n instance to → running_count m ≤ allowance → running_count n ≤ allowance
behind_move m n instance to allowance other moves allowed =
    let counts = moves.counts is_running ∙ ap (λ t. running_count m + cond t 1 0) other in
    no_more (running_count n) (running_count m) allowance (no_more_moved (running_count n) (running_count m) (one_if is_running (state_of m instance)) counts) allowed

pub behind_look : (m n : Machine) (instance : Inst) (address : Addr) (allowance : ℕ) → LooksAgain m n instance address → running_count m ≤ allowance → running_count n ≤ allowance
behind_look m n instance address allowance looks allowed = elim looks [
  | inl waits ↦ behind_move m n instance (Waiting address) allowance refl waits.1 allowed
  | inr ready ↦ behind_move m n instance Ready allowance refl ready.1 allowed
]

-- if something is left of the allowance, one instance may be claimed, or none
pub behind_claim : (m n : Machine) (claimed : Option Inst) (P : Inst → Type 0) (allowance : ℕ)
    → IfSome claimed (λ task. P task × (state_of m task ≡ Some Ready) × Moves m n task Running) → (claimed ≡ None → n ≡ m) → running_count m < allowance → running_count n ≤ allowance
behind_claim m n None P allowance claims none allowed = behind_nothing m n allowance (none refl) (omega (arith, allowed))
behind_claim m n (Some task) P allowance claims none allowed =
    one_more (running_count n) (running_count m) (one_if is_running (state_of m task)) allowance (claims.2.counts is_running) allowed

-- ---- a core that was just made

not_ready_or_done : (state : Option State) → IsReadyOrDone state → state ≡ Some Running → ⊥
not_ready_or_done state is runs = subst IsReadyOrDone runs is

pub of_opened : (m : Machine) (allowance : ℕ) → AreCounted m → ((instance : Inst) → IsReadyOrDone (state_of m instance)) → running_count m ≤ allowance
of_opened m allowance counted each = let none = (none_runs m counted).1 (λ instance runs. not_ready_or_done (state_of m instance) (each instance) runs) in omega (arith, none)

pub of_created : (m : Machine) (allowance : ℕ) → AreCounted m → ((instance : Inst) → state_of m instance ≡ None) → running_count m ≤ allowance
of_created m allowance counted each = of_opened m allowance counted (λ instance. subst IsReadyOrDone (sym (each instance)) tt)
