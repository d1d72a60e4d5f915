-- Several puts of the environment that are committed as one: after room was made, and what is promised of them.
use Rattle.disk.specs.Storage.{Errs}
use Rattle.disk.specs.declared.storage.Disk.{Ghosts}
use Rattle.std.proofs.Common.{◌≡◌, ◌∙◌, ◌≤◌, ◌+◌, ap, sym, refl, subst, inl, inr, ℕ, zero, suc, true, false, List, [], ◌∷◌, length, take, Result, Ok, Err, IfErr, IfOk, OnOk, OnErr, arith, IsTrue}
use Rattle.std.proofs.lemmas.Bool.{false≢true}
use Rattle.std.specs.List.{AllByRecursion}
use Rattle.terms.specs.declared.event.Event.{Event}
use Rattle.terms.specs.Commits.{Commit}
use Rattle.instances.specs.Running.{NoMoreRun}
use Rattle.machine.specs.Group.{GivesAllBack, TakesInTurn}
use Rattle.machine.specs.GroupLaws.{TakenInTurn}
use Rattle.machine.specs.Machine.{IsPut, Machine, running_count}
use Rattle.machine.specs.State.{AreLegalFrom}
use Rattle.vault.specs.declared.vault.Vault.{Vault}
use Rattle.vault.specs.declared.error.VaultError.{VaultError}
use Rattle.vault.specs.declared.error.VaultError.TheVariants.{Device, NoMemory, Damaged, Full, NotAStore, Halted, Exists}
use Rattle.vault.specs.Commits.{AppendLeaves, GatesRest, HeldLeaves, RestLeaves}
use Rattle.commit.specs.declared.error.CoreError.{CoreError}
use Rattle.commit.specs.declared.error.CoreError.TheVariants.{Refused, Store}
use Rattle.commit.specs.Batch.{TellsFullAll}
use Rattle.commit.specs.Calls.{AreInDoubt, CrashLeaves, Halts, IsUnchanged, commit_length}
use Rattle.commit.specs.Core.{Core, graph, facts, is_halted}
use Rattle.commit.specs.Kept.{IsKept}
use Rattle.commit.specs.PutsAll.{PutsGoOn, RefusesPuts, TakesAny, TakesPuts, TriesPuts}
use Rattle.commit.specs.Room.{GivesRoom}
use Rattle.commit.specs.Went.{GoesOn}
use Rattle.commit.proofs.Allowed.{behind_put}
use Rattle.commit.proofs.Answered.{if_err, on_err, on_ok}
use Rattle.commit.proofs.GoingOn.{commit_came, commit_refused, in_one_of}
use Rattle.commit.proofs.Putting.{halted_still, memory_device, memory_halts, unchanged}
use Rattle.commit.proofs.Roomy.{halts as halts_before, moments as moments_before, rests as rests_before, unhalted}
use Rattle.commit.proofs.Same.{alike}
use Rattle.commit.proofs.Together.{halted, takes_in_turn, too_long, too_long_then}

-- ---- in memory

-- nothing is given back
pub none_back : (m : Machine) → GivesAllBack m m []
none_back m = record {
  graph = refl;
  facts = λ _. refl;
  environment = λ _. refl;
  ready = tt;
  others = λ other never. refl;
  item_room = λ collection. omega arith;
  tag_room = λ collection. omega arith;
}

-- after puts no more instances run than before
pub behind_puts : NoMoreRun → (m : Machine) (puts : List Event) (n : Machine) (allowance : ℕ) → AllByRecursion IsPut puts → TakesInTurn m puts n → running_count m ≤ allowance → running_count n ≤ allowance
behind_puts law m [] n allowance all same allowed = subst (λ (k : Machine). running_count k ≤ allowance) (sym same) allowed
behind_puts law m (put ∷ puts) n allowance all turn allowed = behind_puts law turn.0 puts n allowance all.1 turn.2 (behind_put law m turn.0 put allowance all.0 turn.1 allowed)

pub counted : (n : ℕ) (puts : List Event) → n ≤ length puts → length (take n puts) ≡ n
counted zero puts within = refl
counted (suc n) [] within = absurd (omega (arith, within))
counted (suc n) (put ∷ puts) within = ap suc (counted n puts (omega (arith, within)))

-- ---- after room was made

taken_any : {D : Type 0} (old new : Core D) (commit : Commit) → 1 ≤ length commit → TakesPuts old new commit → TakesAny old new commit
taken_any old new [] some it = absurd (omega (arith, some))
taken_any old new (first ∷ commit) some it = it

pub taken_some : {D : Type 0} (old new : Core D) (commit : Commit) → 1 ≤ length commit → TakesAny old new commit → TakesPuts old new commit
taken_some old new [] some it = absurd (omega (arith, some))
taken_some old new (first ∷ commit) some it = it

-- what is said of an answer, without the answer
taken_of : (P : Type 0) (result : Result ℕ CoreError) (count : ℕ) → IfOk result (λ answer. (answer ≡ count) × P) → OnOk result P
taken_of P (Ok answer) count it = it.1
taken_of P (Err error) count it = tt

module _ {D : Type 0} (storage : Ghosts D) (old mid : Core D) (room : GivesRoom old mid) where
  taken_before : (new : Core D) (commit : Commit) → 1 ≤ length commit → TakesPuts mid new commit → TakesPuts old new commit
  taken_before new commit some it = record {
    takes = takes_in_turn old mid room new.machine commit some it.takes;
    working = (sym (halted old mid room) ∙ it.working.0, it.working.1);
    moved = it.moved ∙ ap (λ (v : Vault D). v.journal.end + commit_length commit) room.vault;
    latest = it.latest;
    allowance = it.allowance ∙ room.allowance;
    generation = it.generation ∙ ap (λ (v : Vault D). v.generation) room.vault;
  }

  refused_before : (commit : Commit) (error : CoreError) → RefusesPuts mid commit error → RefusesPuts old commit error
  refused_before commit (Refused refusal) it = absurd it
  refused_before commit (Store Halted) it = sym (halted old mid room) ∙ it
  refused_before commit (Store Full) it = (sym (halted old mid room) ∙ it.0, it.1, too_long old mid room commit it.2)
  refused_before commit (Store Device) it = (sym (halted old mid room) ∙ it.0, it.1)
  refused_before commit (Store NoMemory) it = (sym (halted old mid room) ∙ it.0, it.1)
  refused_before commit (Store (Damaged side place)) it = absurd it
  refused_before commit (Store NotAStore) it = absurd it
  refused_before commit (Store Exists) it = absurd it

  pub tries : (new : Core D) (commit : Commit) (result : Result ℕ CoreError) → 1 ≤ length commit → IfOk result (λ answer. (answer ≡ length commit) × TakesPuts mid new commit) → OnErr result (IsUnchanged mid new) → IfErr result (RefusesPuts mid commit) → TellsFullAll mid commit result
      → Halts storage mid new result → AreInDoubt mid new commit result → (IsTrue storage.is_honest → CrashLeaves storage mid new commit) → TriesPuts storage old new commit result
  tries new commit result some ok err refused full halting doubt moments = record {
    takes = on_ok result (TakesPuts mid new commit) (TakesAny old new commit) (λ it. taken_any old new commit some (taken_before new commit some it)) (taken_of _ result (length commit) ok);
    unchanged = on_err result (IsUnchanged mid new) (IsUnchanged old new) (unchanged storage old mid room new) err;
    refused = if_err result (RefusesPuts mid commit) (RefusesPuts old commit) (refused_before commit) refused;
    full = λ working more long. full more (too_long_then old mid room commit long);
    doubt = on_err result (is_halted mid ≡ false → is_halted new ≡ true → new.in_doubt ≡ commit) (is_halted old ≡ false → is_halted new ≡ true → new.in_doubt ≡ commit) (λ so working. so (halted old mid room ∙ working)) doubt;
    moments = λ on working. moments_before old mid room storage new commit (moments on);
    halts = halts_before old mid room storage new result halting;
  }

  -- there was no memory for the room
  pub no_room_for : (commit : Commit) → 1 ≤ length commit → is_halted old ≡ false → (IsTrue storage.is_honest → HeldLeaves storage) → (IsTrue storage.is_honest → GatesRest storage) → (IsTrue storage.is_honest → IsKept storage.files old)
      → TriesPuts storage old mid commit (Err (Store NoMemory))
  no_room_for commit some working held gates kept = record {
    takes = tt;
    unchanged = record {
      stays = record { graph = room.machine.graph; facts = room.machine.facts; environment = room.machine.environment; allowance = room.allowance; latest = room.latest };
      states = room.machine.states;
    };
    refused = (working, some);
    full = λ _ more long. inr refl;
    doubt = λ _ stops. absurd (false≢true (sym working ∙ sym (halted old mid room) ∙ stops));
    moments = λ on _. rests_before storage old mid commit (held on) (gates on) (kept on) working room.vault;
    halts = unhalted {T = ℕ} storage old mid (Store NoMemory) working room.vault room.in_doubt (memory_halts storage old mid room) (memory_device storage old mid room);
  }

-- ---- nothing is tried

module _ {D : Type 0} (storage : Ghosts D) (core : Core D) where
  same : IsUnchanged core core
  same = record { stays = record { graph = refl; facts = λ _. refl; environment = λ _. refl; allowance = refl; latest = refl }; states = λ _. refl }

  -- by a halted core
  pub halted_tries : is_halted core ≡ true → TriesPuts storage core core [] (Err (Store Halted))
  halted_tries stops = record {
    takes = tt;
    unchanged = same;
    refused = stops;
    full = λ working. absurd (false≢true (sym working ∙ stops));
    doubt = λ working. absurd (false≢true (sym working ∙ stops));
    moments = λ on working. absurd (false≢true (sym working ∙ stops));
    halts = halted_still {T = ℕ} storage core core stops refl refl;
  }

  pub halted_goes_on : is_halted core ≡ true → GoesOn storage core core []
  halted_goes_on stops = record {
    went = λ working. absurd (false≢true (sym working ∙ stops));
    stays = λ _. (record { graph = refl; facts = λ _. refl; environment = λ _. refl; vault = alike core.vault; in_doubt = refl; latest = refl }, refl);
    settled = λ working. absurd (false≢true (sym working ∙ stops));
    later = omega arith;
  }

  -- or because none of the puts comes
  pub nothing_tried : is_halted core ≡ false → core.in_doubt ≡ [] → (IsTrue storage.is_honest → HeldLeaves storage) → (IsTrue storage.is_honest → GatesRest storage) → (IsTrue storage.is_honest → IsKept storage.files core) → TriesPuts storage core core [] (Ok 0)
  nothing_tried working settled held gates kept = record {
    takes = (working, refl);
    unchanged = tt;
    refused = tt;
    full = λ _ more. absurd (omega (arith, more));
    doubt = tt;
    moments = λ on _. rests_before storage core core [] (held on) (gates on) (kept on) working refl;
    halts = record {
      halts = (λ is. inl is, λ both. elim both [ inl is ↦ is | inr erred ↦ absurd (calm erred) ]);
      halted = (λ is. absurd (never Halted is), λ is. absurd (false≢true (sym working ∙ is)));
      disk = record { device = (λ is. absurd (never Device is), λ grew. absurd (omega (arith, grew))); refused = λ changed. absurd (changed refl); later = omega arith };
      same = tt;
      settled = settled;
    };
  }
    where
      calm : Errs storage core.vault.disk core.vault.disk → ⊥
      calm (inl grew) = omega (arith, grew)
      calm (inr changed) = changed refl

      never : (cause : VaultError) → ◌≡◌ {A = Result ℕ CoreError} (Ok 0) (Err (Store cause)) → ⊥
      never cause is = cc

-- ---- how the core goes on

module _ {D : Type 0} (storage : Ghosts D) where
  pub puts_go_on : TakenInTurn → (IsTrue storage.is_honest → AppendLeaves storage) → (IsTrue storage.is_honest → HeldLeaves storage) → (IsTrue storage.is_honest → RestLeaves storage) → (IsTrue storage.is_honest → GatesRest storage)
      → (old new : Core D) (commit : Commit) (result : Result ℕ CoreError) → 1 ≤ length commit → AreLegalFrom (graph old) (facts old) commit → (is_halted old ≡ false → old.in_doubt ≡ []) → (IsTrue storage.is_honest → IsKept storage.files old) → (IsTrue storage.is_honest → IsKept storage.files new)
      → TriesPuts storage old new commit result → PutsGoOn storage old new commit result
  puts_go_on law append held rest_leaves gates_rest old new commit (Ok count) some legal settled kept kept_after it =
      subst (λ (commits : List Commit). GoesOn storage old new commits) (sym (in_one_of commit some))
      (commit_came storage rest_leaves gates_rest {T = ℕ} append held old new commit legal kept kept_after settled it.moments law (Ok count) (taken_some old new commit some it.takes) it.halts.settled it.halts)
  puts_go_on law append held rest_leaves gates_rest old new commit (Err error) some legal settled kept kept_after it =
      commit_refused storage rest_leaves gates_rest {T = ℕ} append held old new commit legal kept kept_after settled it.moments error some it.unchanged it.doubt it.halts
