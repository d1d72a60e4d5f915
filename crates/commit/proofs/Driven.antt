-- What a run keeps from one instance to the next.
use Rattle.disk.specs.declared.storage.Disk.{Ghosts}
use Rattle.std.proofs.Common.{◌≡◌, ◌≢◌, ◌∙◌, ◌<◌, ◌≤◌, ◌-◌, ◌^◌, min, subst, sym, inl, inr, ℕ, false, [], Option, None, Some, IfSome, IsSome, arith, IsTrue}
use Rattle.std.proofs.lemmas.Bool.{cases_lt, false≢true}
use Rattle.terms.specs.declared.name.Inst.{Inst}
use Rattle.graph.specs.Graph.{Graph}
use Rattle.instances.specs.declared.state.State.TheVariants.{Ready, Running}
use Rattle.terms.specs.Sets.{AmongBoth}
use Rattle.graph.specs.Fits.{HasNoFault}
use Rattle.machine.specs.Machine.{ready_count, running_count}
use Rattle.machine.specs.Status.{AreCounted, NoneIsActive}
use Rattle.vault.specs.Commits.{GatesRest, GatesStay, RestLeaves}
use Rattle.commit.specs.Core.{Core, facts, graph, is_halted, state_of}
use Rattle.commit.specs.Kept.{IsKept}
use Rattle.commit.specs.Runs.{NoneRuns, RunsOn}
use Rattle.commit.specs.Status.{TellsStatus}
use Rattle.commit.specs.declared.status.Status.{Status}
use Rattle.commit.specs.Steps.{MayClaim, Moves}
use Rattle.commit.proofs.Counted.{none_is_ready, none_runs}
use Rattle.commit.proofs.Joined.{goes_on}
use Rattle.commit.proofs.Running.{as_it_was, moved, rests}

pub record Driven {D : Type 0} (storage : Ghosts D) (given : Graph) (first now : Core D) : Type 0 where
  pub runs : RunsOn storage first now
  pub idle : NoneRuns now
  pub working : is_halted now ≡ false
  pub settled : now.in_doubt ≡ []
  pub graph_is : given ≡ graph now
  pub allowance : now.allowance ≤ first.allowance

-- if none ran, the one that was claimed runs alone
pub alone : {D : Type 0} (old new : Core D) (task : Inst) → NoneRuns old → Moves old new task Running → (instance : Inst) → instance ≢ task → state_of new instance ≢ Some Running
alone old new task idle moves instance other runs = idle instance (sym (moves.machine.others instance other) ∙ runs)

-- if none of the ready ones is claimed, the first may not be claimed either
pub claims_none : {D : Type 0} (old new : Core D) (at ready : ℕ) (claimed : Option Inst) → claimed ≡ None → (MayClaim old at → IsSome claimed) → new ≡ old → at < ready → ready ≡ min (ready_count old.machine) (2 ^ 64 - 1) → MayClaim new 0 → ⊥
claims_none {D} old new at ready claimed none some same below counted may =
    let first = subst (λ (c : Core D). MayClaim c 0) same may in
    absurd (false≢true (subst (λ (o : Option Inst). IsSome o) none (some (record { below = omega (arith, below, counted); allowed = first.allowed; working = first.working }))))

-- what is promised of the instance that was claimed
pub of_claim : {D : Type 0} (old new : Core D) (at : ℕ) (claimed : Option Inst) (task : Inst) → claimed ≡ Some task → IfSome claimed (λ one. MayClaim old at × (state_of old one ≡ Some Ready) × Moves old new one Running)
    → MayClaim old at × (state_of old task ≡ Some Ready) × Moves old new task Running
of_claim old new at claimed task is promised = subst (λ (o : Option Inst). IfSome o (λ one. MayClaim old at × (state_of old one ≡ Some Ready) × Moves old new one Running)) is promised

module _
    {D : Type 0} (storage : Ghosts D) (both : AmongBoth) (gates_stay : IsTrue storage.is_honest → GatesStay storage)
    (rest_leaves : IsTrue storage.is_honest → RestLeaves storage) (gates_rest : IsTrue storage.is_honest → GatesRest storage) (given : Graph)
  where
    -- nothing has run yet
    pub begins : (first : Core D) → given ≡ graph first → NoneRuns first → is_halted first ≡ false → first.in_doubt ≡ [] → (IsTrue storage.is_honest → IsKept storage.files first) → Driven storage given first first
    begins first graph_is idle working settled kept = record {
      runs = as_it_was storage rest_leaves gates_rest first working settled kept;
      idle = idle;
      working = working;
      settled = settled;
      graph_is = graph_is;
      allowance = omega arith;
    }

    -- an instance was claimed, and then its run came to this
    pub runs_on : (first mid claimed new : Core D) (task : Inst) → Driven storage given first mid → (IsTrue storage.is_honest → IsKept storage.files mid) → Moves mid claimed task Running
        → RunsOn storage claimed new → RunsOn storage first new
    runs_on first mid claimed new task driven kept moves came =
        let same = moved mid claimed task Running moves driven.working driven.settled in
        let claim : RunsOn storage mid claimed = record { commits = []; runs = rests storage rest_leaves gates_rest mid claimed driven.working kept same } in
        goes_on storage both gates_stay first claimed new same.halted same.settled
        (goes_on storage both gates_stay first mid claimed driven.working driven.settled driven.runs claim) came

    -- and the run goes on from there
    pub driven_on : (first new : Core D) → given ≡ graph first → RunsOn storage first new → NoneRuns new → is_halted new ≡ false → new.in_doubt ≡ [] → Driven storage given first new
    driven_on first new graph_is runs idle working settled = record {
      runs = runs;
      idle = idle;
      working = working;
      settled = settled;
      graph_is = graph_is ∙ sym runs.runs.graph;
      allowance = omega (arith, runs.runs.spent);
    }

-- If something is left to do, nothing runs, and nothing may be claimed, the allowance is used up.
pub used_up : {D : Type 0} (c : Core D) → AreCounted c.machine → NoneRuns c → HasNoFault (facts c) → (NoneIsActive c.machine → ⊥) → (MayClaim c 0 → ⊥) → c.allowance ≡ 0
used_up c counted idle no_fault active never = elim (cases_lt 0 c.allowance) [
  | inl left ↦ absurd (never (record { below = some left; allowed = omega (arith, none, left); working = no_fault }))
  | inr not_left ↦ omega (arith, not_left)
]
  where
    none : running_count c.machine ≡ 0
    none = (none_runs c.machine counted).1 idle

    some : 0 < c.allowance → 0 < ready_count c.machine
    some left = elim (cases_lt 0 (ready_count c.machine)) [
      | inl ready ↦ ready
      | inr not_ready ↦ absurd (active (λ instance. (none_is_ready c.machine counted (omega (arith, not_ready)) instance, idle instance)))
    ]

-- how far a store is, by an equal status
pub is_at : {D : Type 0} (c : Core D) (told status : Status) → told ≡ status → TellsStatus c told → TellsStatus c status
is_at c told status is tells = subst (λ (s : Status). TellsStatus c s) is tells
