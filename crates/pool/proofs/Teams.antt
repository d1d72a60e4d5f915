-- What workers make of a core, and which verdict is right after them.
use Rattle.disk.specs.declared.storage.Disk.{Ghosts}
use Rattle.std.proofs.Common.{◌≡◌, ◌↔◌, ◌∙◌, ◌+◌, ◌++◌, ℕ, zero, suc, Bool, true, false, true≢false, List, [], ◌∷◌, length, Option, Some, None, IfErr, IfSome, IsErrOf, IsSome, if◌then◌else◌, option_to_list, Result, Ok, Err, refl, sym, ap, subst, inl, inr, ⊎_elim, arith, append_assoc, length-append, IsTrue}
use mathlib.Core.List.{IsPrefix}
use Rattle.std.specs.List.{AllByRecursion}
use Rattle.std.proofs.lemmas.Bool.{false≢true}
use Rattle.disk.specs.Time.{Contents, LeavesSince}
use Rattle.terms.specs.declared.name.Inst.{Inst}
use Rattle.terms.specs.Commits.{Commit, events_of, facts_behind}
use Rattle.terms.specs.Sets.{AmongBoth, Facts}
use Rattle.graph.specs.Graph.{Graph}
use Rattle.machine.specs.State.{AreLegalFrom}
use Rattle.vault.specs.declared.error.VaultError.TheVariants as vault
use Rattle.vault.specs.Commits.{GatesRest, GatesStay, RestLeaves}
use Rattle.commit.specs.Kept.{IsKept}
use Rattle.commit.proofs.Running.{as_it_was, is_end}
use Rattle.commit.specs.declared.error.CoreError.{CoreError}
use Rattle.commit.specs.declared.error.CoreError.TheVariants.{Store}
use Rattle.commit.specs.declared.outcome.Outcome.{Outcome}
use Rattle.commit.specs.declared.verdict.Verdict.{Verdict}
use Rattle.commit.specs.declared.verdict.Verdict.TheVariants.{Complete, Blocked, Stopped, Limit, Asked, Halted}
use Rattle.commit.specs.declared.verdict.RunError.{RunError}
use Rattle.commit.specs.declared.verdict.RunError.TheVariants.{Spawn, NoMemory, Full}
use Rattle.commit.specs.Core.{Core, facts, graph, is_halted}
use Rattle.commit.specs.Runs.{IsFull, MetFull, Runs, RunsSince, RunsWithin, TellsVerdict, begun_by, with_allowance}
use Rattle.commit.proofs.Joined.{since_joined}
use Rattle.commit.proofs.Lists.{events_joined, facts_joined, records_joined}
use Rattle.commit.proofs.Told.{told_for}
use Rattle.passes.proofs.Lists.{prefix_further, prefix_self}
use Rattle.passes.specs.Known.{Made, commits}
use Rattle.passes.specs.Known.{Known, newcomer}
use Rattle.passes.specs.Opening.{Opening}
use Rattle.passes.specs.Roll.{new_passes}
use Rattle.passes.specs.Rule.{IsInHistory}
use Rattle.hub.specs.Opening.{begun_with, opening_of}
use Rattle.hub.specs.declared.error.TaskError.{TaskError}
use Rattle.hub.specs.declared.error.TaskError.TheVariants.{Foreign, Refused}
use Rattle.hub.specs.Tasks.{OnTask, RefusesEndOf}
use Rattle.pool.specs.declared.team.Causes.{Causes}
use Rattle.pool.specs.Concluded.{Concludes, first_refusal}
use Rattle.pool.specs.Worked.{OneSawFull, SawFull, WorksOn}

pub as_many : (first count : ℕ) → length (new_passes first count) ≡ count
as_many first zero = refl
as_many first (suc count) = length-append (new_passes first count) (newcomer (first + count) ∷ []) ∙ omega (arith, as_many first count)

-- what is taken is one
pub one_out : {T : Type 0} (taken : Option T) → IsSome taken → length (option_to_list taken) ≡ 1
one_out (Some value) is = refl
one_out None is = absurd (false≢true is)

-- one more pass: it saw such an end, or one before it did
pub one_last : (opening : Opening) (passes : List Known) (last : Known) → SawFull opening last → OneSawFull opening (passes ++ last ∷ [])
one_last opening [] last saw = inl saw
one_last opening (known ∷ passes) last saw = inr (one_last opening passes last saw)

pub one_before : (opening : Opening) (passes : List Known) (last : Known) → OneSawFull opening passes → OneSawFull opening (passes ++ last ∷ [])
one_before opening [] last one = absurd one
one_before opening (known ∷ passes) last one = ⊎_elim (λ (saw : SawFull opening known). inl saw) (λ (rest : OneSawFull opening passes). inr (one_before opening passes last rest)) one

-- an end that does not fit after what a pass has seen is a commit by itself that does not
full_alone : (opening : Opening) (known : Known) (task : Inst) (outcome : Outcome) → RefusesEndOf opening known task outcome (Store vault.Full) → SawFull opening known
full_alone opening known task outcome why = record {
  before = known.seen;
  starts = prefix_self known.seen;
  refused = why.0 ∷ [];
  some = omega arith;
  are_ends = (is_end outcome task why.0 why.1, tt);
  legal = (why.2.0, tt);
  too_long = why.2.1;
}

-- .. as a refusal of `Full` says
pub saw_full : {T : Type 0} (opening : Opening) (known : Known) (task : Inst) (outcome : Outcome) (answer : Result T TaskError)
    → OnTask answer (λ back. back ≡ task) (λ result. IfErr result (RefusesEndOf opening known task outcome)) → OnTask answer (λ _. ⊥) (λ result. IsErrOf result (Store vault.Full)) → SawFull opening known
saw_full {T = T} opening known task outcome (Ok value) refused full = full_alone opening known task outcome (subst (λ (result : Result T CoreError). IfErr result (RefusesEndOf opening known task outcome)) full refused)
saw_full {T = T} opening known task outcome (Err (Refused error)) refused full = full_alone opening known task outcome (subst (λ (result : Result T CoreError). IfErr result (RefusesEndOf opening known task outcome)) full refused)
saw_full {T = T} opening known task outcome (Err (Foreign back)) refused full = absurd full

-- no worker was refused anything
pub no_refusal : (causes : Causes) (result : Result Verdict RunError) → causes.no_thread ≡ false → causes.no_memory ≡ false → causes.full ≡ false → IfSome (first_refusal causes) (λ error. result ≡ Err error)
no_refusal causes result thread memory full =
    let none : first_refusal causes ≡ None = λ i. if thread i then Some Spawn else if memory i then Some NoMemory else if full i then Some Full else None in
    subst (λ (met : Option RunError). IfSome met (λ error. result ≡ Err error)) (sym none) tt

-- ---- a run since the opening of a hub

module _ {D : Type 0} (storage : Ghosts D) where
  -- what a crash might have left, whichever of two equivalent names it has
  unnamed : (begun : ℕ) (left was_left : ℕ → Contents → Type 0) (d : D) (P : Contents → Type 0) → ((t : ℕ) (contents : Contents) → left t contents ↔ was_left t contents) → LeavesSince storage.moment storage.left_at begun left d P → LeavesSince storage.moment storage.left_at begun was_left d P
  unnamed begun left was_left d P alike leaves = record {
    later = leaves.later;
    each = leaves.each;
    stays = λ t contents le. (λ is. (alike t contents).0 ((leaves.stays t contents le).0 is), λ is. (leaves.stays t contents le).1 ((alike t contents).1 is));
  }

  -- a run since the opening is one from the core that was opened
  pub runs_of_team : (opening : Opening) (left : ℕ → Contents → Type 0) (old new : Core D) (commits : List Commit) → opening ≡ opening_of storage old → ((t : ℕ) (contents : Contents) → left t contents ↔ storage.left_at old.vault.disk t contents)
      → RunsSince storage (begun_with opening) left new commits → Runs storage old new commits
  runs_of_team opening left old new commits opened alike runs =
      let it = subst (λ (o : Opening). RunsSince storage (begun_with o) left new commits) opened runs in
      record {
        are_ends = it.are_ends;
        legal = it.legal;
        graph = it.graph;
        facts = it.facts;
        environment = it.environment;
        spent = it.spent;
        latest = it.latest;
        generation = it.generation;
        end = it.end;
        crashes = λ on. unnamed (storage.moment old.vault.disk) left (storage.left_at old.vault.disk) new.vault.disk _ alike (it.crashes on);
        acknowledged = it.acknowledged;
        gates = λ on has. unnamed (storage.moment old.vault.disk) left (storage.left_at old.vault.disk) new.vault.disk _ alike (it.gates on has);
        halts = it.halts;
        later = it.later;
        some_in_doubt = it.some_in_doubt;
      }

  -- nothing was committed
  pub nothing_done : (IsTrue storage.is_honest → RestLeaves storage) → (IsTrue storage.is_honest → GatesRest storage) → (core : Core D) (full : Bool) → is_halted core ≡ false → core.in_doubt ≡ [] → (IsTrue storage.is_honest → IsKept storage.files core) → full ≡ false
      → WorksOn storage core core full
  nothing_done leaves gates_rest core full working settled kept none =
      let it = as_it_was storage leaves gates_rest core working settled kept in
      record { commits = it.commits; runs = it.runs; met = λ is. absurd (false≢true (sym none ∙ is)) }

  -- ---- what did not fit

  -- a longer run met it too
  pub full_further : (g : Graph) (X : Facts) (from : ℕ) (some all : List Commit) → IsPrefix some all → MetFull g X from some → MetFull g X from all
  full_further g X from some all begins met = record {
    before = met.before;
    starts = prefix_further met.before some all met.starts begins;
    refused = met.refused;
    some = met.some;
    are_ends = met.are_ends;
    legal = met.legal;
    too_long = met.too_long;
  }

  -- how many events both have
  counted : (first second : List Commit) → length (events_of (first ++ second)) ≡ length (events_of first) + length (events_of second)
  counted first second = ap length (events_joined first second) ∙ length-append (events_of first) (events_of second)

  -- what the last part of a run met, the whole run met
  full_behind : AmongBoth → (old mid : Core D) (first second : List Commit) → is_halted mid ≡ false → Runs storage old mid first
      → MetFull (graph mid) (facts mid) mid.vault.journal.end second → MetFull (graph old) (facts old) old.vault.journal.end (first ++ second)
  full_behind both old mid first second goes runs met =
      let sets : facts mid ≡ facts_behind (facts old) first = λ i fact. runs.facts fact i in
      let all : facts_behind (facts mid) met.before ≡ facts_behind (facts old) (first ++ met.before) = ap (λ (Y : Facts). facts_behind Y met.before) sets ∙ sym (facts_joined both (facts old) first met.before) in
      record {
        before = first ++ met.before;
        starts = (met.starts.0, append_assoc first met.before met.starts.0 ∙ ap (λ (list : List Commit). first ++ list) met.starts.1);
        refused = met.refused;
        some = met.some;
        are_ends = met.are_ends;
        legal = subst (λ (at : Graph × Facts). AreLegalFrom at.0 at.1 met.refused) (λ i. (runs.graph i, all i)) met.legal;
        too_long = omega (arith, met.too_long, runs.end goes, records_joined first met.before);
      }

  -- what one of the passes saw is in the whole history
  saw_in_history : (opening : Opening) (history : List Made) (passes : List Known) → AllByRecursion (IsInHistory history) passes → OneSawFull opening passes → MetFull opening.graph opening.facts opening.end (commits history)
  saw_in_history opening history [] all one = absurd one
  saw_in_history opening history (known ∷ passes) all one =
      ⊎_elim
      (λ (saw : SawFull opening known). full_further opening.graph opening.facts opening.end known.seen (commits history) all.0.seen saw)
      (λ (rest : OneSawFull opening passes). saw_in_history opening history passes all.1 rest)
      one

  one_after : (opening : Opening) (before passes : List Known) → OneSawFull opening passes → OneSawFull opening (before ++ passes)
  one_after opening [] passes one = one
  one_after opening (known ∷ before) passes one = inr (one_after opening before passes one)

  -- .. and so met in the core that was opened
  pub met_by_team : (opening : Opening) (old : Core D) (history : List Made) (envs workers : List Known) → opening ≡ opening_of storage old → AllByRecursion (IsInHistory history) (envs ++ workers) → OneSawFull opening workers
      → MetFull (graph old) (facts old) old.vault.journal.end (commits history)
  met_by_team opening old history envs workers opened all one =
      subst (λ (o : Opening). MetFull o.graph o.facts o.end (commits history)) opened (saw_in_history opening history (envs ++ workers) all (one_after opening envs workers one))

  -- ---- verdicts

  -- a verdict of one thread that is right after the last part of a run is right after the whole run, for a driver that may do more
  told_more : (one other : Type 0) (may_be_asked : Bool) (c : Core D) (left count limit before : ℕ) (result : Result Verdict RunError) → left + before ≡ limit → (one → other)
      → TellsVerdict one false false c left count result → TellsVerdict other may_be_asked true c limit (before + count) result
  told_more one other may c left count limit before (Ok Halted) sum so told = told
  told_more one other may c left count limit before (Ok (Stopped instance kind)) sum so told = told
  told_more one other may c left count limit before (Ok Complete) sum so told = told
  told_more one other may c left count limit before (Ok (Blocked blocked)) sum so told = told
  told_more one other may c left count limit before (Ok Limit) sum so told = (told.0, omega (arith, sum, told.1))
  told_more one other may c left count limit before (Ok Asked) sum so told = absurd (false≢true told.1)
  told_more one other may c left count limit before (Err Spawn) sum so told = absurd (false≢true told.1)
  told_more one other may c left count limit before (Err NoMemory) sum so told = told
  told_more one other may c left count limit before (Err Full) sum so told = (told.0, so told.1, inr refl)

  -- a run of the workers, and then its conclusion, are a run with the limit
  pub driven : AmongBoth → (IsTrue storage.is_honest → GatesStay storage) → (may_be_asked : Bool) (causes : Causes) (old first mid new : Core D) (limit : ℕ) (result : Result Verdict RunError) → first ≡ with_allowance old limit → (is_halted mid ≡ false → mid.in_doubt ≡ [])
      → WorksOn storage first mid causes.full → Concludes storage may_be_asked causes mid new result
      → RunsWithin storage may_be_asked true old new limit result
  driven both gates_stay may causes old first mid new limit result allowed settled work concludes = ⊎_elim at_once goes_on concludes.verdict
    where
      runs : Runs storage (with_allowance old limit) mid work.commits
      runs = subst (λ (core : Core D). Runs storage core mid work.commits) allowed work.runs

      met : causes.full ≡ true → MetFull (graph old) (facts old) old.vault.journal.end work.commits
      met is = subst (λ (core : Core D). MetFull (graph core) (facts core) core.vault.journal.end work.commits) allowed (work.met is)

      at_once : (new ≡ mid) × ((limit count : ℕ) → mid.allowance + count ≡ limit → TellsVerdict (causes.full ≡ true) may true mid limit count result) → RunsWithin storage may true old new limit result
      at_once told = record {
        commits = work.commits;
        runs = subst (λ (core : Core D). Runs storage (with_allowance old limit) core work.commits) (sym told.0) runs;
        told =
            subst (λ (core : Core D). TellsVerdict (MetFull (graph old) (facts old) old.vault.journal.end work.commits × (true ≡ false → IsFull core)) may true core limit (length (events_of work.commits)) result) (sym told.0)
            (told_for (causes.full ≡ true) (MetFull (graph old) (facts old) old.vault.journal.end work.commits × (true ≡ false → IsFull mid)) may true mid limit (length (events_of work.commits)) result (λ _ is. (met is, λ one. absurd (true≢false one)))
            (told.1 limit (length (events_of work.commits)) runs.spent));
      }

      goes_on : (is_halted mid ≡ false) × RunsWithin storage false false mid new mid.allowance result → RunsWithin storage may true old new limit result
      goes_on more =
          let goes = more.0 in
          let rest = more.1 in
          record {
            commits = work.commits ++ rest.commits;
            runs = since_joined storage both gates_stay (begun_by storage (with_allowance old limit)) (storage.left_at old.vault.disk) mid new work.commits rest.commits goes (settled goes) runs rest.runs;
            told =
                subst (λ (n : ℕ). TellsVerdict (MetFull (graph old) (facts old) old.vault.journal.end (work.commits ++ rest.commits) × (true ≡ false → IsFull new)) may true new limit n result) (sym (counted work.commits rest.commits))
                (told_more (MetFull (graph mid) (facts mid) mid.vault.journal.end rest.commits × (false ≡ false → IsFull new)) (MetFull (graph old) (facts old) old.vault.journal.end (work.commits ++ rest.commits) × (true ≡ false → IsFull new)) may new mid.allowance
                (length (events_of rest.commits)) limit (length (events_of work.commits)) result runs.spent
                (λ full. (full_behind both (with_allowance old limit) mid work.commits rest.commits goes runs full.0, λ one. absurd (true≢false one))) rest.told);
          }
