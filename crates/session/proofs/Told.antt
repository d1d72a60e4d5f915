-- What a store shows by its facts: whether each instance is done, and which wait.
use Rattle.std.proofs.Common.{◌≡◌, ◌≢◌, ◌∙◌, ap, refl, sym, subst, inr, ℕ, Bool, true, false, List, [], ◌∷◌, length, Option, Some, None, is_some, Ok, arith}
use Rattle.std.proofs.lemmas.Bool.{false≢true}
use Rattle.std.proofs.lemmas.List.Sorted.{All-permutation, Contains-permutation, length_permutation}
use Rattle.std.specs.Cmp.{IsTotalOrder}
use Rattle.std.specs.FinMap.{IsAntisymmetric}
use Rattle.std.specs.List.Sorted.{IsPermutation, IsSortedBy}
use Rattle.std.specs.Ordering.{is_lt}
use Rattle.terms.specs.declared.name.Addr.{Addr}
use Rattle.terms.specs.declared.name.Inst.{Inst}
use Rattle.terms.specs.Commits.{Commit}
use Rattle.terms.specs.Facts.{done}
use Rattle.terms.specs.Name.{inst_cmp}
use Rattle.terms.specs.Sets.{Facts}
use Rattle.graph.specs.Fits.{IsPrescribed}
use Rattle.graph.specs.Graph.{Graph}
use Rattle.instances.specs.declared.state.State.{State}
use Rattle.instances.specs.declared.state.State.TheVariants.{Ready, Running, Waiting, Done}
use Rattle.instances.specs.OfStep.{is_waiting}
use Rattle.machine.specs.Machine.{Machine, facts, state_of, waiting_count}
use Rattle.machine.specs.Promise.{IsKept}
use Rattle.machine.specs.State.{Waits}
use Rattle.machine.specs.Status.{AreBlocked, NoneIsActive}
use Rattle.commit.specs.declared.verdict.Verdict.TheVariants.{Complete, Blocked}
use Rattle.commit.specs.Core.{Core, graph}
use Rattle.commit.specs.Core as core
use Rattle.commit.specs.declared.status.Status.TheVariants as status
use Rattle.commit.specs.Runs.{IsAt, TellsVerdict}
use Rattle.session.specs.declared.reply.Reply.{Reply}
use Rattle.session.specs.declared.reply.Reply.TheVariants as replied
use Rattle.session.specs.Answers.{AreAllDone, AreWaiting, TellsBlocked, TellsRun, drive_of, instance_cmp}
use Rattle.session.specs.Went.{HasCauseOfRun, IsLeft}
use Rattle.session.proofs.Listed.{found, listed}
use Rattle.session.proofs.Strictly.{strictly}

-- ---- states and facts

state_is : (m : Machine) → IsKept m → (instance : Inst) → IsPrescribed m.graph (facts m) instance → (state : State) × (state_of m instance ≡ Some state)
state_is m kept instance prescribed = at (state_of m instance) refl ((kept.prescribed instance).1 prescribed)
  where
    at : (o : Option State) → state_of m instance ≡ o → is_some (state_of m instance) ≡ true → (state : State) × (state_of m instance ≡ Some state)
    at None is some = absurd (false≢true (sym (ap is_some is) ∙ some))
    at (Some state) is some = (state, is)

apart : true ≡ false → ⊥
apart same = cc

-- if no instance is active and none waits, each is done
pub all_done : (m : Machine) → IsKept m → NoneIsActive m → waiting_count m ≡ 0 → AreAllDone m.graph (facts m)
all_done m kept idle none instance prescribed = let it = state_is m kept instance prescribed in at it.0 it.1
  where
    at : (state : State) → state_of m instance ≡ Some state → facts m (done instance) ≡ true
    at Ready is = absurd ((idle instance).0 is)
    at Running is = absurd ((idle instance).1 is)
    at (Waiting address) is = absurd (apart ((kept.counted is_waiting).0 none instance (Waiting address) is))
    at Done is = (kept.done instance).0 is

-- ---- those that wait

no_address : (address : Addr) → ◌≡◌ {A = Option Addr} None (Some address) → ⊥
no_address address same = cc

-- if the list of those that wait is empty, none is counted
fails : (m : Machine) → AreBlocked m [] → (instance : Inst) (state : State) → state_of m instance ≡ Some state → is_waiting state ≡ false
fails m are instance Ready is = refl
fails m are instance Running is = refl
fails m are instance Done is = refl
fails m are instance (Waiting address) is = absurd (no_address address ((are.each instance address).1 is))

is_empty : {X : Type 0} (list : List X) → length list ≡ 0 → list ≡ []
is_empty [] none = refl
is_empty (first ∷ rest) none = absurd (omega (arith, none))

-- if one waits, not all instances are done
pub some_wait : (m : Machine) → IsKept m → waiting_count m ≢ 0 → AreAllDone m.graph (facts m) → ⊥
some_wait m kept some all = some ((kept.counted is_waiting).1 each)
  where
    waits_not : (address : Addr) → ◌≡◌ {A = Option State} (Some Done) (Some (Waiting address)) → ⊥
    waits_not address same = cc

    each : (instance : Inst) (state : State) → state_of m instance ≡ Some state → is_waiting state ≡ false
    each instance Ready is = refl
    each instance Running is = refl
    each instance Done is = refl
    each instance (Waiting address) is = absurd (waits_not address (sym ((kept.done instance).1 (all instance ((kept.prescribed instance).0 (ap is_some is)))) ∙ is))

-- the sorted list holds all that are not done, each of which waits, and some do
pub told_waiting :
    IsTotalOrder inst_cmp → IsAntisymmetric inst_cmp → (m : Machine) → IsKept m → NoneIsActive m → waiting_count m ≢ 0 → (blocked list : List (Inst × Addr)) → AreBlocked m blocked → IsPermutation blocked list
    → IsSortedBy (λ one two. is_lt (instance_cmp m.graph one.0 two.0)) list → AreWaiting m.graph (facts m) list × (list ≢ [])
told_waiting total one_key m kept idle some blocked list are same rises = (
  record {
    wait = All-permutation (λ (entry : Inst × Addr). Waits m.graph (facts m) entry.0 entry.1) blocked list same (λ place entry within. are.waits _ _ (found inst_cmp total blocked are.rises place entry within));
    all = λ instance it unfinished. (let at = are.all idle instance it unfinished in (at.0, Contains-permutation blocked list (instance, at.0) same (listed inst_cmp one_key blocked instance at.0 at.1)));
    rises = strictly total m.graph blocked list are.rises same rises;
  },
  λ empty. some ((kept.counted is_waiting).1 (fails m (subst (AreBlocked m) (is_empty blocked (sym (length_permutation blocked list same) ∙ ap length empty)) are))),
)

-- ---- verdicts

pub told_complete : {D : Type 0} (c : Core D) → IsKept c.machine → (full : Type 0) (asked spawn halted : Bool) (limit count : ℕ) → TellsVerdict full asked spawn c limit count (Ok Complete)
    → TellsRun (graph c) (drive_of limit asked spawn halted) (core.facts c) count replied.Complete
told_complete c kept full asked spawn halted limit count is = (is.2.0, all_done c.machine kept is.1.1 (omega (arith, is.1.2)))

pub told_blocked : {D : Type 0} (c : Core D) → IsKept c.machine → (full : Type 0) (asked spawn halted : Bool) (limit count : ℕ) (blocked : ℕ) (reply : Reply) → TellsVerdict full asked spawn c limit count (Ok (Blocked blocked))
    → (core.is_halted c ≡ false → NoneIsActive c.machine → waiting_count c.machine ≢ 0 → TellsBlocked (graph c) (core.facts c) reply) → TellsRun (graph c) (drive_of limit asked spawn halted) (core.facts c) count reply
told_blocked c kept full asked spawn halted limit count blocked reply is tells_it = at reply (tells_it is.0.0 is.0.1.1 (λ none. is.1 (is.0.1.2 ∙ omega (arith, none))))
  where
    at : (r : Reply) → TellsBlocked (graph c) (core.facts c) r → TellsRun (graph c) (drive_of limit asked spawn halted) (core.facts c) count r
    at (replied.Blocked waiting) told = (is.0.2.0, told.0, told.1)
    at replied.NoMemory told = (is.0.1.0, some_wait c.machine kept (λ none. is.1 (is.0.1.2 ∙ omega (arith, none))))
    at replied.Done told = absurd told
    at (replied.Value address value) told = absurd told
    at (replied.Absent address) told = absurd told
    at replied.Complete told = absurd told
    at (replied.Stopped instance kind) told = absurd told
    at replied.Limit told = absurd told
    at replied.Asked told = absurd told
    at (replied.Refused refusal) told = absurd told
    at replied.Full told = absurd told
    at replied.Halted told = absurd told
    at replied.Device told = absurd told
    at replied.NoThread told = absurd told

-- ---- causes

-- a reply to a run that is neither `Halted`, `Device` nor `Full` needs no other cause than how far the core is, if the core is not halted
pub other_cause : {D : Type 0} (g : Graph) (X : Facts) (from : ℕ) (new : Core D) (commits : List Commit) (reply : Reply) → reply ≢ replied.Halted → reply ≢ replied.Device → reply ≢ replied.Full → core.is_halted new ≡ false → IsLeft new reply → HasCauseOfRun g X from new commits reply
other_cause g X from new commits reply not_halted not_device not_full working left =
    record { halted = (λ is. absurd (not_halted is), λ halted. absurd (false≢true (sym working ∙ halted))); device = not_device; full = λ is. absurd (not_full is); left = left }

-- and so neither reply to `Blocked` does
pub blocked_cause : {D : Type 0} (g : Graph) (X : Facts) (from : ℕ) (c : Core D) (commits : List Commit) (reply : Reply) → (blocked : ℕ) → blocked ≢ 0 → IsAt c (status.Quiet blocked) → TellsBlocked (graph c) (core.facts c) reply → HasCauseOfRun g X from c commits reply
blocked_cause g X from c commits (replied.Blocked waiting) blocked some at told = other_cause g X from c commits (replied.Blocked waiting) (λ same. cc) (λ same. cc) (λ same. cc) at.0 tt
blocked_cause g X from c commits replied.NoMemory blocked some at told = other_cause g X from c commits replied.NoMemory (λ same. cc) (λ same. cc) (λ same. cc) at.0 (inr (blocked, some, at))
blocked_cause g X from c commits replied.Done blocked some at told = absurd told
blocked_cause g X from c commits (replied.Value address value) blocked some at told = absurd told
blocked_cause g X from c commits (replied.Absent address) blocked some at told = absurd told
blocked_cause g X from c commits replied.Complete blocked some at told = absurd told
blocked_cause g X from c commits (replied.Stopped instance kind) blocked some at told = absurd told
blocked_cause g X from c commits replied.Limit blocked some at told = absurd told
blocked_cause g X from c commits replied.Asked blocked some at told = absurd told
blocked_cause g X from c commits (replied.Refused refusal) blocked some at told = absurd told
blocked_cause g X from c commits replied.Full blocked some at told = absurd told
blocked_cause g X from c commits replied.Halted blocked some at told = absurd told
blocked_cause g X from c commits replied.Device blocked some at told = absurd told
blocked_cause g X from c commits replied.NoThread blocked some at told = absurd told
