-- The number of instances that run, by which of them run.
use Rattle.std.proofs.Common.{◌≡◌, ◌∙◌, ap, sym, refl, ℕ, zero, suc, ◌+◌, ◌≤◌, ℤ, T, Bool, true, false, cond, List, [], ◌∷◌, get_or, sum_by, slice_get, Some, is_some, arith}
use mathlib.Core.Bool.{false≢true}
use Rattle.std.specs.Ordering.{is_eq, eq_by_cmp}
use Rattle.std.specs.Cmp.{Equal-is}
use Rattle.std.specs.FinMap.{FinMap, entries, entries_sorted, find, get, get-entries, get-insert, insert, is_sorted}
use Rattle.std.specs.FinMap.Entries.{below_all}
use Rattle.std.proofs.lemmas.Cmp.{tied_itself}
use Rattle.terms.specs.Key.{key_cmp}
use Rattle.maps.specs.PlaceOrder.{keys_total, same_key}
use Rattle.terms.specs.declared.name.Inst.{Inst}
use Rattle.instances.specs.declared.state.State.{State}
use Rattle.instances.specs.declared.state.State.TheVariants.{Ready, Running, Waiting, Done}
use Rattle.instances.specs.declared.step.Step.{Step}
use Rattle.instances.specs.Known.{Known, MovesOne, instance_at, state_at, state_in, total}
use Rattle.instances.specs.OfStep.{OfStep, how_many, is_running, one_if}
use Rattle.instances.specs.Running.{NoMoreRun, OneLessRuns, OneRuns}
use Rattle.instances.proofs.Below.{first, second, none_below}
use Rattle.instances.proofs.Counted.{Entry, weight, front, counted}
use Rattle.instances.proofs.Moved.{moved, of_step}
use Rattle.instances.proofs.Quiet.{all_of_none, counted_none}

abbrev Keys : Type 0
Keys = List ℤ

-- a key that is found after an entry is not that entry's key
apart : (e : Entry) (es : List Entry) (key : Keys) (state : State) → T (below_all key_cmp e.0 es) → find key_cmp key es ≡ Some state → eq_by_cmp key_cmp key e.0 ≡ false
apart e es key state below there = by_test (eq_by_cmp key_cmp key e.0) refl
  where
    by_test : (t : Bool) → eq_by_cmp key_cmp key e.0 ≡ t → t ≡ false
    by_test true tied =
        let same = same_key key e.0 ((Equal-is (key_cmp key e.0)).0 tied) in
        absurd (false≢true (ap is_some (sym (ap (λ k. find key_cmp k es) same ∙ none_below key_cmp e.0 es below) ∙ there)))
    by_test false other = refl

-- the first entry is found by its key
at_front : (e : Entry) (es : List Entry) → find key_cmp e.0 (e ∷ es) ≡ Some e.1
at_front e es = ap (λ r. cond (is_eq r) (Some e.1) (find key_cmp e.0 es)) (tied_itself keys_total e.0)

-- each of the entries that runs also runs in the map
abbrev AllRun : List Entry → FinMap key_cmp State → Type 0
AllRun es m = (key : Keys) → find key_cmp key es ≡ Some Running → get m key ≡ Some Running

-- this still holds without the first of the entries
others_run : (e : Entry) (es : List Entry) (m : FinMap key_cmp State) → T (below_all key_cmp e.0 es) → AllRun (e ∷ es) m → AllRun es m
others_run e es m below each key there = each key (ap (λ t. cond t (Some e.1) (find key_cmp key es)) (apart e es key Running below there) ∙ there)

-- and also for the map in which the first entry is done
others_run_on : (e : Entry) (es : List Entry) (m : FinMap key_cmp State) → T (below_all key_cmp e.0 es) → AllRun (e ∷ es) m → AllRun es (insert m e.0 Done)
others_run_on e es m below each key there =
    get-insert keys_total m e.0 Done key ∙ ap (λ t. cond t (Some Done) (get m key)) (apart e es key Running below there)
    ∙ others_run e es m below each key there

one_runs_less : (all one rest after before found : ℕ) → all ≡ one + rest → one ≡ 1 → rest ≤ after → after + found ≡ before + 0 → found ≡ 1 → all ≤ before
one_runs_less all one rest after before found is first_is fewer moves runs = omega (arith, is, first_is, fewer, moves, runs)

none_runs_less : (all one rest before : ℕ) → all ≡ one + rest → one ≡ 0 → rest ≤ before → all ≤ before
none_runs_less all one rest before is first_is fewer = omega (arith, is, first_is, fewer)

-- no more run among the entries than in the map
abbrev HasAsMany : List Entry → FinMap key_cmp State → Type 0
HasAsMany es m = sum_by (weight is_running) es ≤ how_many is_running m

-- if each of the entries that runs also runs in the map, then no more run among the entries than in the map
as_many_run : (es : List Entry) → T (is_sorted key_cmp es) → (m : FinMap key_cmp State) → AllRun es m → HasAsMany es m
as_many_run [] sorted m each = omega arith
as_many_run (e ∷ es) sorted m each =
    by_state e.1 refl (as_many_run es in_order m (others_run e es m below each)) (as_many_run es in_order (insert m e.0 Done) (others_run_on e es m below each))
  where
    below : T (below_all key_cmp e.0 es)
    below = first (below_all key_cmp e.0 es) (is_sorted key_cmp es) sorted

    in_order : T (is_sorted key_cmp es)
    in_order = second (below_all key_cmp e.0 es) (is_sorted key_cmp es) sorted

    weighs : (state : State) → e.1 ≡ state → weight is_running e ≡ cond (is_running state) 1 0
    weighs state is = ap (λ s. cond (is_running s) 1 0) is

    by_state : (state : State) → e.1 ≡ state → HasAsMany es m → HasAsMany es (insert m e.0 Done) → HasAsMany (e ∷ es) m
    by_state Ready is fewer left = none_runs_less _ (weight is_running e) _ _ (front (weight is_running) e es) (weighs Ready is) fewer
    by_state Done is fewer left = none_runs_less _ (weight is_running e) _ _ (front (weight is_running) e es) (weighs Done is) fewer
    by_state (Waiting address) is fewer left = none_runs_less _ (weight is_running e) _ _ (front (weight is_running) e es) (weighs (Waiting address) is) fewer
    by_state Running is fewer left =
        one_runs_less _ (weight is_running e) _ _ _ (one_if is_running (get m e.0)) (front (weight is_running) e es) (weighs Running is) left
        (counted is_running m e.0 Done) (ap (one_if is_running) (each e.0 (at_front e es ∙ ap Some is)))

-- in one step: if each instance that runs ran before, then no more run than before
no_more_of_step : (old new : FinMap key_cmp State) → ((key : Keys) → get new key ≡ Some Running → get old key ≡ Some Running) → how_many is_running new ≤ how_many is_running old
no_more_of_step old new each = as_many_run (entries new) (entries_sorted new) old (λ key there. each key (get-entries new key ∙ there))

abbrev running : Step → ℕ
running step = how_many is_running step.instances.states

abbrev RunsAt : List Step → ℕ → Keys → Type 0
RunsAt steps n key = state_in (slice_get steps n) key ≡ Some Running

-- only `Running` passes the test
others_fail : (state : State) → (state ≡ Running → ⊥) → is_running state ≡ false
others_fail Ready other = refl
others_fail Running other = absurd (other refl)
others_fail (Waiting address) other = refl
others_fail Done other = refl

both_less : (all one rest all_old one_old rest_old : ℕ) → all ≡ one + rest → all_old ≡ one_old + rest_old → one ≤ one_old → rest ≤ rest_old → all ≤ all_old
both_less all one rest all_old one_old rest_old is was here behind = omega (arith, is, was, here, behind)

-- in all steps
no_more_of_all : (olds news : List Step) → ((n : ℕ) (key : Keys) → RunsAt news n key → RunsAt olds n key) → sum_by running news ≤ sum_by running olds
no_more_of_all olds [] each = omega arith
no_more_of_all [] (new ∷ news) each =
    let none_there : (n : ℕ) (key : Keys) → RunsAt (new ∷ news) n key → ⊥ = λ n key there. false≢true (ap is_some (each n key there)) in
    let none_counted = all_of_none is_running (new ∷ news) (λ n key state there. others_fail state (λ runs. none_there n key (there ∙ ap Some runs))) in
    omega (arith, none_counted)
no_more_of_all (old ∷ olds) (new ∷ news) each =
    both_less _ (running new) (sum_by running news) _ (running old) (sum_by running olds) (front running new news) (front running old olds)
    (no_more_of_step old.instances.states new.instances.states (λ key there. each 0 key there))
    (no_more_of_all olds news (λ n key there. each (suc n) key there))

-- if each instance that runs now ran before, then no more run than before
pub no_more : NoMoreRun
no_more old new each = no_more_of_all old.steps new.steps (λ n key there. each (instance_at n key) there)

not_none : (n : ℕ) → (n ≡ 0 → ⊥) → 1 ≤ n
not_none zero some = absurd (some refl)
not_none (suc n) some = omega arith

-- if a given instance runs, then the number of those that run is at least 1
pub one : OneRuns
one known instance there = not_none (total is_running known) (λ none. false≢true (sym ((counted_none is_running known).0 none instance Running there)))

-- a step of the list in which the instance with this key runs
abbrev StepOf : List Step → ℕ → Keys → Type 0
StepOf steps n key = (step : Step) × (step ≡ get_or steps n step) × (get step.instances.states key ≡ Some Running)

step_of : (steps : List Step) (n : ℕ) (key : Keys) → RunsAt steps n key → StepOf steps n key
step_of [] n key there = absurd (cc)
step_of (step ∷ steps) zero key there = (step, refl, there)
step_of (step ∷ steps) (suc n) key there = let it = step_of steps n key there in (it.0, it.1, it.2)

-- the same with the one instance done
abbrev Ended : Known → Inst → Type 0
Ended old ended = (now : Known) × MovesOne old now ended Done

with_ended : (old : Known) (ended : Inst) → state_at old ended ≡ Some Running → Ended old ended
with_ended old ended runs =
    let it = step_of old.steps ended.collection.0 ended.key runs in
    let within = of_step old.steps ended.collection.0 ended.key (ap is_some runs) in
    let after : OfStep = record { states = insert it.0.instances.states ended.key Done; room = it.0.instances.room } in
    (_, moved old.tags old.steps ended it.0 after Done within it.1 (record { states = refl; room = refl }))

less_by_one : (new now old was : ℕ) → new ≤ now → now + was ≡ old + 0 → was ≡ 1 → new + 1 ≤ old
less_by_one new now old was fewer moves is = omega (arith, fewer, moves, is)

-- if, in addition, one that ran before does not run now, then at least one fewer runs
pub one_less : OneLessRuns
one_less old new ended runs each =
    let it = with_ended old ended runs in
    less_by_one (total is_running new) (total is_running it.0) (total is_running old) (one_if is_running (state_at old ended))
    (no_more it.0 new (λ instance there. let both = each instance there in it.1.others instance both.0 ∙ both.1))
    (it.1.counts is_running) (ap (one_if is_running) runs)
