-- A claim.
use Rattle.std.proofs.Common.{◌≡◌, ◌∙◌, ℕ, Bool, true, false, true≢false, refl, sym, ap, subst, Result, Ok, Err, Option, Some, None, List, IfOk, IfSome, is_some}
use Rattle.terms.specs.declared.name.Inst.{Inst}
use Rattle.terms.specs.Commits.{Commit}
use Rattle.terms.specs.Facts.{done}
use Rattle.terms.specs.Sets.{Facts}
use Rattle.graph.specs.Graph.{Graph}
use Rattle.graph.specs.Fits.{HasNoFault, MayEnd}
use Rattle.instances.specs.declared.state.State.{State}
use Rattle.instances.specs.declared.state.State.TheVariants as state
use Rattle.machine.specs.Promise.{IsKept as KeepsMachine}
use Rattle.commit.specs.declared.error.CoreError.{CoreError}
use Rattle.commit.specs.Core.{Core, state_of}
use Rattle.commit.specs.Core as core
use Rattle.commit.proofs.Ran.{instance_is_of}
use Rattle.commit.specs.Steps.{Claims}
use Rattle.passes.specs.Known.{Known, Made, Desk, commits}
use Rattle.passes.specs.Opening.{Opening}
use Rattle.hub.specs.Opening.{facts_behind, IsBehind}
use Rattle.hub.specs.Kept.{IsKept}
use Rattle.passes.specs.Visits.{Shows}
use Rattle.hub.specs.Replies.{MayRun}
use Rattle.hub.proofs.Keeping.{RanStays, kept_moved}
use Rattle.hub.proofs.Telling.{known_state}

pub kept_claimed : {D : Type 0} (Ran : List Commit → Core D → Type 0) → RanStays Ran → (opening : Opening) (count at : ℕ) (d : Desk) (old new : Core D) (result : Result (Option Inst) CoreError) → IsKept Ran opening count d old
    → Claims old new at result → IsKept Ran opening count d new
kept_claimed Ran ran_stays opening count at d old new (Ok None) kept claims = subst (IsKept Ran opening count d) (sym (claims.none.1 refl)) kept
kept_claimed Ran ran_stays opening count at d old new (Ok (Some task)) kept claims = kept_moved Ran ran_stays opening count d old new task state.Running kept claims.claimed.2
kept_claimed Ran ran_stays opening count at d old new (Err error) kept claims = subst (IsKept Ran opening count d) (sym claims.err.same) kept

abbrev is_done : Option State → Bool
is_done (Some state.Done) = true
is_done other = false

-- an instance that is ready is prescribed and not done
not_done : {D : Type 0} (c : Core D) (task : Inst) → KeepsMachine c.machine → state_of c task ≡ Some state.Ready → (is : Bool) → core.facts c (done task) ≡ is → core.facts c (done task) ≡ false
not_done c task kept ready false is = is
not_done c task kept ready true is = absurd (true≢false (sym (ap is_done ((kept.done task).1 is)) ∙ ap is_done ready))

-- so it may be ended
pub may_end : {D : Type 0} (opening : Opening) (history : List Made) (before now : Known) (c : Core D) (task : Inst) → KeepsMachine c.machine → IsBehind opening (commits history) c
    → Shows history before now → state_of c task ≡ Some state.Ready → MayEnd opening.graph (facts_behind opening now.seen) task
may_end opening history before now c task kept behind shows ready =
    let known : core.facts c ≡ facts_behind opening now.seen = known_state opening history before now c behind shows in
    subst (λ (here : Graph × Facts). MayEnd here.0 here.1 task) (λ i. (behind.graph i, known i)) (record {
      of_graph = instance_is_of c.machine kept task (ap is_some ready);
      prescribed = (kept.prescribed task).0 (ap is_some ready);
      not_done = not_done c task kept ready (core.facts c (done task)) refl;
    })

-- and run, if the store has no fault
pub may_run_one : {D : Type 0} (opening : Opening) (history : List Made) (before now : Known) (c : Core D) (task : Inst) → KeepsMachine c.machine → IsBehind opening (commits history) c
    → Shows history before now → HasNoFault (core.facts c) → state_of c task ≡ Some state.Ready → MayRun opening now task
may_run_one opening history before now c task kept behind shows working ready =
    record { working = subst HasNoFault (known_state opening history before now c behind shows) working; may_end = may_end opening history before now c task kept behind shows ready }

pub may_run : {D : Type 0} (opening : Opening) (history : List Made) (before now : Known) (at : ℕ) (old new : Core D) (result : Result (Option Inst) CoreError) → KeepsMachine old.machine → IsBehind opening (commits history) old
    → Shows history before now → Claims old new at result → IfOk result (λ claimed. IfSome claimed (MayRun opening now))
may_run opening history before now at old new (Ok None) kept behind shows claims = tt
may_run opening history before now at old new (Ok (Some task)) kept behind shows claims = may_run_one opening history before now old task kept behind shows claims.claimed.0.working claims.claimed.1
may_run opening history before now at old new (Err error) kept behind shows claims = tt
