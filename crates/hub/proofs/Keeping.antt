-- What the lock keeps stays kept.
use Rattle.disk.specs.declared.storage.Disk.{Ghosts}
use Rattle.std.proofs.Common.{◌≡◌, ◌∙◌, ◌<◌, ◌≤◌, ◌+◌, ⊎_elim, ℕ, Bool, true, false, true≢false, List, [], ◌∷◌, ◌++◌, length, refl, sym, ap, subst, arith, inl, Result, Err}
use Rattle.disk.specs.declared.side.Side.{Side}
use Rattle.disk.specs.File.{File}
use Rattle.disk.specs.Time.{Contents, MayLeaveNow}
use Rattle.terms.specs.declared.event.Event.{Event}
use Rattle.terms.specs.Commits.{Commit}
use Rattle.terms.specs.Facts.{FactsGoOn, EnvironmentGoesOn}
use Rattle.terms.specs.Sets.{AmongBoth}
use Rattle.machine.specs.declared.refusal.Refusal.{Refusal}
use Rattle.commit.specs.declared.error.CoreError.{CoreError}
use Rattle.commit.specs.Core.{Core, facts, is_halted}
use Rattle.commit.specs.Calls.{Halts, Stays, AreInDoubt, IsInDoubt, CommitsAs, commit_length}
use Rattle.commit.specs.Runs.{records_length}
use Rattle.commit.proofs.Same.{same_vault}
use Rattle.commit.specs.Kept.{IsHaltedByTurn}
use Rattle.commit.specs.Kept.{IsKept as KeepsFiles}
use Rattle.terms.specs.Sets.{Facts}
use Rattle.graph.specs.Graph.{Graph}
use Rattle.vault.specs.Store.{IsSame, StandsBeforeOrAfter}
use Rattle.terms.specs.declared.name.Addr.{Addr}
use Rattle.graph.specs.Fits.{IsAbsent}
use Rattle.instances.specs.declared.state.State.TheVariants as state
use Rattle.machine.specs.Machine.{HasItem}
use Rattle.terms.specs.declared.put.Put.{Put}
use Rattle.commit.specs.Steps.{Moves, LooksAgain, Wakes}
use Rattle.instances.specs.declared.state.State.{State}
use Rattle.terms.specs.declared.name.Inst.{Inst}
use Rattle.vault.specs.declared.vault.Vault.{Vault}
use Rattle.passes.specs.Known.{Desk, Made, commits, count_of, writing_by}
use Rattle.passes.specs.Opening.{Opening}
use Rattle.hub.specs.Opening.{WasTurned, AreLegalBehind, IsBehind}
use Rattle.hub.specs.Kept.{IsKept, CrashLeavesHistory, Rests}
use Rattle.passes.proofs.Lists.{commits_append, count_more}
use Rattle.hub.proofs.States.{Comes, legal_more, behind_more, behind_same, record_has_bytes}

-- what is known of how commits came stays, if nothing happens on the disk
abbrev pub RanStays : {D : Type 0} → (List Commit → Core D → Type 0) → Type 0
RanStays {D = D} Ran = (made : List Commit) (old new : Core D) → Stays old new → IsSame old.vault new.vault → new.in_doubt ≡ old.in_doubt → Ran made old → Ran made new

records_more : (made : List Commit) (commit : Commit) → records_length (made ++ commit ∷ []) ≡ records_length made + commit_length commit
records_more [] commit = omega arith
records_more (first ∷ made) commit = omega (arith, records_more made commit)

-- a commit comes
pub kept_more : AmongBoth → FactsGoOn → EnvironmentGoesOn → {D : Type 0} (Ran : List Commit → Core D → Type 0) (opening : Opening) (passes number : ℕ) (d : Desk) (old new : Core D) (commit : Commit)
    → IsKept Ran opening passes d old → Comes old new commit → Ran (commits d.book.history ++ commit ∷ []) new → IsKept Ran opening passes (writing_by number commit d) new
kept_more both go_on goes_on Ran opening passes number d old new commit kept comes ran =
    let history : List Made = d.book.history in
    let more : commits (history ++ record { pass = number; commit = commit } ∷ []) ≡ commits history ++ commit ∷ [] = commits_append history (record { pass = number; commit = commit } ∷ []) in record {
      alone = kept.alone;
      passes = kept.passes;
      behind = subst (λ (list : List Commit). IsBehind opening list new) (sym more) (behind_more both go_on goes_on opening (commits history) commit old new kept.behind comes);
      legal = subst (AreLegalBehind opening) (sym more) (legal_more both opening (commits history) commit old kept.legal kept.behind comes.legal);
      end = λ _. omega (arith, kept.end comes.working.0, comes.moved, records_more (commits history) commit, ap records_length more);
      short = λ _. omega (arith, kept.short comes.working.0, comes.moved, record_has_bytes commit, count_more history number commit);
      turned = λ turned. absurd (true≢false (sym turned.0 ∙ comes.working.1));
      ran = subst (λ (list : List Commit). Ran list new) (sym more) ran;
    }

-- no commit comes
pub kept_same : {D T : Type 0} (storage : Ghosts D) (Ran : List Commit → Core D → Type 0) (opening : Opening) (passes : ℕ) (d : Desk) (old new : Core D) (commit : Commit) (error : CoreError) → (is_halted old ≡ false → is_halted new ≡ true → 0 < length commit)
    → IsKept Ran opening passes d old → Stays old new → Halts {T = T} storage old new (Err error) → AreInDoubt {T = T} old new commit (Err error) → Ran (commits d.book.history) new → IsKept Ran opening passes d new
kept_same storage Ran opening passes d old new commit error some kept stays halts doubt ran = record {
  alone = kept.alone;
  passes = kept.passes;
  behind = behind_same opening (commits d.book.history) old new kept.behind stays;
  legal = kept.legal;
  end = λ working. let before = not_before (is_halted old) refl working in (halts.same (working ∙ sym before)).0.end ∙ kept.end before;
  short = λ working. let before = not_before (is_halted old) refl working in
      subst (λ (end : ℕ). count_of (commits d.book.history) ≤ end) (sym (halts.same (working ∙ sym before)).0.end) (kept.short before);
  turned = λ turned. by_case (is_halted old) refl turned;
  ran = ran;
}
  where
    not_before : (was : Bool) → is_halted old ≡ was → is_halted new ≡ false → is_halted old ≡ false
    not_before false is working = is
    not_before true is working = absurd (true≢false (sym (halts.halts.1 (inl is)) ∙ working))

    by_case : (was : Bool) → is_halted old ≡ was → IsHaltedByTurn new → WasTurned opening
    by_case false is turned = absurd (none (ap length (sym (doubt is turned.0) ∙ turned.1)))
      where
        none : length commit ≡ 0 → ⊥
        none is_none = omega (arith, some is turned.0, is_none)
    by_case true is turned = kept.turned (is, sym (halts.same (turned.0 ∙ sym is)).1 ∙ turned.1)

-- an event by itself is refused
pub kept_refused : {D T : Type 0} (storage : Ghosts D) (Ran : List Commit → Core D → Type 0) (opening : Opening) (passes : ℕ) (d : Desk) (old new : Core D) (event : Event) (error : CoreError)
    → IsKept Ran opening passes d old → Stays old new → Halts {T = T} storage old new (Err error) → IsInDoubt {T = T} old new event (Err error) → Ran (commits d.book.history) new → IsKept Ran opening passes d new
kept_refused {D} {T} storage Ran opening passes d old new event error kept stays halts doubt ran =
    kept_same {D = D} {T = T} storage Ran opening passes d old new (event ∷ []) error (λ _ _. omega arith) kept stays halts doubt ran

-- no commit comes, and nothing happens to the files
pub kept_on : {D : Type 0} (Ran : List Commit → Core D → Type 0) → RanStays Ran → (opening : Opening) (passes : ℕ) (d : Desk) (old new : Core D) → IsKept Ran opening passes d old → Stays old new → new.vault ≡ old.vault → new.in_doubt ≡ old.in_doubt
    → IsKept Ran opening passes d new
kept_on {D = D} Ran ran_stays opening passes d old new kept stays files doubt = record {
  alone = kept.alone;
  passes = kept.passes;
  behind = behind_same opening (commits d.book.history) old new kept.behind stays;
  legal = kept.legal;
  end = λ working. ap (λ (v : Vault D). v.journal.end) files ∙ kept.end (ap (λ (v : Vault D). v.halted) (sym files) ∙ working);
  short = λ working. subst (λ (end : ℕ). count_of (commits d.book.history) ≤ end) (ap (λ (v : Vault D). v.journal.end) (sym files)) (kept.short (ap (λ (v : Vault D). v.halted) (sym files) ∙ working));
  turned = λ turned. kept.turned (ap (λ (v : Vault D). v.halted) (sym files) ∙ turned.0, sym doubt ∙ turned.1);
  ran = ran_stays (commits d.book.history) old new stays (same_vault old.vault new.vault files) doubt kept.ran;
}

pub moves_stay : {D : Type 0} (old new : Core D) (instance : Inst) (to : State) → Moves old new instance to → Stays old new
moves_stay old new instance to moves = record { graph = moves.machine.graph; facts = moves.machine.facts; environment = moves.machine.environment; allowance = moves.allowance; latest = moves.latest }

pub kept_moved : {D : Type 0} (Ran : List Commit → Core D → Type 0) → RanStays Ran → (opening : Opening) (passes : ℕ) (d : Desk) (old new : Core D) (instance : Inst) (to : State) → IsKept Ran opening passes d old → Moves old new instance to
    → IsKept Ran opening passes d new
kept_moved Ran ran_stays opening passes d old new instance to kept moves = kept_on Ran ran_stays opening passes d old new kept (moves_stay old new instance to moves) moves.vault moves.in_doubt

-- those that wait for an item are woken
pub kept_woken : {D : Type 0} (Ran : List Commit → Core D → Type 0) → RanStays Ran → (opening : Opening) (passes : ℕ) (d : Desk) (old new : Core D) (puts : List Put) → IsKept Ran opening passes d old → Wakes old new puts
    → IsKept Ran opening passes d new
kept_woken Ran ran_stays opening passes d old new puts kept wakes =
    kept_on Ran ran_stays opening passes d old new kept (record { graph = wakes.machine.graph; facts = wakes.machine.facts; environment = wakes.machine.environment; allowance = wakes.allowance; latest = wakes.latest })
    wakes.vault wakes.in_doubt

-- what a call says of the core that is kept, it says of the core that is seen, and of the event as it is named
pub commits_as : {D T : Type 0} (storage : Ghosts D) (inside seen new : Core D) (why : Core D → Refusal → Type 0)
    (event named : Event) (result : Result T CoreError) → inside ≡ seen → event ≡ named
    → CommitsAs storage inside new (why inside) event result → CommitsAs storage seen new (why seen) named result
commits_as {D = D} storage inside seen new why event named result core_is event_is =
    subst (λ (at : Core D × Event). CommitsAs storage at.0 new (why at.0) at.1 result) (λ i. (core_is i, event_is i))

-- a crash leaves the state after the history
pub crash_leaves : {D : Type 0} (files : D → Side → File) (opening : Opening) (history : List Made) (c : Core D) → IsBehind opening (commits history) c → KeepsFiles files c → (IsHaltedByTurn c → ⊥)
    → CrashLeavesHistory files opening (record { history = history; core = c })
crash_leaves files opening history c behind kept not_turned contents may =
    subst (λ (at : Graph × (Facts × Facts)). StandsBeforeOrAfter at.0 at.1.0 at.1.1 c.in_doubt contents) (λ i. (behind.graph i, (behind.environment i, behind.facts i))) (kept.left not_turned contents may)

-- on a core that was halted, a crash leaves what one might have left when the hub was opened
pub crash_rests : {D : Type 0} (storage : Ghosts D) (opening : Opening) (left : ℕ → Contents → Type 0) (c : Core D)
    → ((contents : Contents) → MayLeaveNow (storage.files c.vault.disk) contents → storage.left_at c.vault.disk (storage.moment c.vault.disk) contents)
    → Rests storage opening left c → (contents : Contents) → MayLeaveNow (storage.files c.vault.disk) contents → left opening.moment contents
crash_rests storage opening left c now rests contents may =
    subst (λ (t : ℕ). left t contents) rests.since (rests.leaves (storage.moment c.vault.disk) contents (now contents may))

-- a park leaves it as it was, whether it is refused or not
pub kept_parked : {D : Type 0} (Ran : List Commit → Core D → Type 0) → RanStays Ran → (opening : Opening) (count : ℕ) (d : Desk) (old new : Core D) (task : Inst) (address : Addr) → IsKept Ran opening count d old → LooksAgain old new task address
    → IsKept Ran opening count d new
kept_parked Ran ran_stays opening count d old new task address kept looks =
    ⊎_elim
    (λ (waits : IsAbsent (facts old) address × Moves old new task (state.Waiting address)). kept_moved Ran ran_stays opening count d old new task (state.Waiting address) kept waits.1)
    (λ (there : HasItem (facts old) address × Moves old new task state.Ready). kept_moved Ran ran_stays opening count d old new task state.Ready kept there.1)
    looks
