-- Claims by tickets.
use Rattle.std.proofs.Common.{◌≡◌, ℕ, refl, sym, subst, Bool, Result, Ok, Err, Option, Some, None, List, [], ◌∷◌, ◌++◌, IfOk, IfErr, IfSome, inl, inr, append-nil, arith}
use Rattle.std.specs.List.{AllByRecursion}
use Rattle.terms.specs.declared.name.Inst.{Inst}
use Rattle.terms.specs.Commits.{Commit}
use Rattle.graph.specs.Fits.{MayEnd}
use Rattle.instances.specs.declared.state.State.TheVariants as state
use Rattle.instances.specs.declared.ticket.Ticket.{Ticket}
use Rattle.instances.specs.Tickets.{IsReady}
use Rattle.machine.specs.Promise.{IsKept as KeepsMachine}
use Rattle.commit.specs.declared.error.CoreError.{CoreError}
use Rattle.commit.specs.Core.{Core}
use Rattle.commit.specs.Steps.{ClaimsBy, TakesTickets}
use Rattle.passes.specs.Known.{Known, Made, Desk, commits}
use Rattle.passes.specs.Opening.{Opening}
use Rattle.passes.specs.Visits.{Shows}
use Rattle.hub.specs.Claims.{RefusesClaims}
use Rattle.hub.specs.Opening.{facts_behind, IsBehind}
use Rattle.hub.specs.Kept.{IsKept}
use Rattle.hub.specs.Replies.{MayRun, SaysHalted}
use Rattle.hub.specs.Tickets.{AddsTickets}
use Rattle.hub.proofs.Claimed.{may_end, may_run_one}
use Rattle.hub.proofs.Keeping.{RanStays, kept_moved}

abbrev Answer : Type 0
Answer = Result (Result (Option Inst) Ticket) CoreError

pub kept_claimed_by : {D : Type 0} (Ran : List Commit → Core D → Type 0) → RanStays Ran → (opening : Opening) (count : ℕ) (d : Desk) (old new : Core D) (ticket : Ticket) (answer : Answer) → IsKept Ran opening count d old
    → ClaimsBy old new ticket answer → IsKept Ran opening count d new
kept_claimed_by Ran ran_stays opening count d old new ticket (Ok (Ok None)) kept claims = subst (IsKept Ran opening count d) (sym (claims.none.1 refl)) kept
kept_claimed_by Ran ran_stays opening count d old new ticket (Ok (Ok (Some task))) kept claims = kept_moved Ran ran_stays opening count d old new task state.Running kept claims.claimed.2
kept_claimed_by Ran ran_stays opening count d old new ticket (Ok (Err back)) kept claims = subst (IsKept Ran opening count d) (sym claims.back.2) kept
kept_claimed_by Ran ran_stays opening count d old new ticket (Err error) kept claims = subst (IsKept Ran opening count d) (sym claims.err.same) kept

pub may_run_by : {D : Type 0} (opening : Opening) (history : List Made) (before now : Known) (old new : Core D) (ticket : Ticket) (answer : Answer) → KeepsMachine old.machine → IsBehind opening (commits history) old
    → Shows history before now → ClaimsBy old new ticket answer → IfOk answer (λ answer. IfOk answer (λ claimed. IfSome claimed (MayRun opening now)))
may_run_by opening history before now old new ticket (Ok (Ok None)) kept behind shows claims = tt
may_run_by opening history before now old new ticket (Ok (Ok (Some task))) kept behind shows claims = may_run_one opening history before now old task kept behind shows claims.claimed.0.working claims.claimed.1
may_run_by opening history before now old new ticket (Ok (Err back)) kept behind shows claims = tt
may_run_by opening history before now old new ticket (Err error) kept behind shows claims = tt

-- ---- tickets that are taken

each_may_end : {D : Type 0} (opening : Opening) (history : List Made) (before now : Known) (c : Core D) (tickets : List Ticket) → KeepsMachine c.machine → IsBehind opening (commits history) c → Shows history before now
    → AllByRecursion (IsReady c.machine.memory.instances) tickets → AllByRecursion (λ (ticket : Ticket). MayEnd opening.graph (facts_behind opening now.seen) ticket.inst) tickets
each_may_end opening history before now c [] kept behind shows ready = tt
each_may_end opening history before now c (ticket ∷ tickets) kept behind shows ready =
    (may_end opening history before now c ticket.inst kept behind shows ready.0, each_may_end opening history before now c tickets kept behind shows ready.1)

pub adds_tickets : {D : Type 0} (opening : Opening) (history : List Made) (before now : Known) (old new : Core D) (first last : ℕ) (had has : List Ticket) (result : Result Bool CoreError) → KeepsMachine old.machine
    → IsBehind opening (commits history) old → Shows history before now → TakesTickets old new first last had has result → AddsTickets opening now had has
adds_tickets opening history before now old new first last had has (Ok over) kept behind shows takes =
    let out = takes.ok.1 in record {
      more = out.more;
      first = first;
      added = out.added;
      few = out.few;
      numbered = out.numbered;
      may_end = each_may_end opening history before now old out.more kept behind shows out.ready;
    }
adds_tickets opening history before now old new first last had has (Err error) kept behind shows takes =
    record { more = []; first = first; added = subst (λ tickets. tickets ≡ had ++ []) (sym takes.none.1) (sym (append-nil had)); few = omega arith; numbered = tt; may_end = tt }

pub refuses_claims : {D : Type 0} (old new : Core D) (first last : ℕ) (had has : List Ticket) (result : Result Bool CoreError) → TakesTickets old new first last had has result → IfErr result RefusesClaims
refuses_claims old new first last had has (Ok over) takes = tt
refuses_claims old new first last had has (Err error) takes = elim takes.err [ inl halted ↦ inl halted.1 | inr refused ↦ inr refused.1 ]
