-- The number of instances, of those that wait and of those that are done, as the lengths of their lists.
use Rattle.std.proofs.Common.{◌≡◌, ◌∙◌, ap, sym, refl, ℕ, suc, ◌+◌, ◌-◌, ◌^◌, min, Bool, cond, Option, List, [], ◌∷◌, map, length, sum_by, arith, length-append}
use Rattle.std.specs.List.{cons_option, filter_map}
use Rattle.std.specs.FinMap.{entries}
use Rattle.std.proofs.lemmas.List.{length-map}
use Rattle.std.proofs.lemmas.List.Elements.{filter_map-append}
use Rattle.terms.specs.declared.name.Addr.{Addr}
use Rattle.terms.specs.declared.name.Inst.{Inst}
use Rattle.instances.specs.declared.state.State.{State}
use Rattle.instances.specs.declared.state.State.TheVariants.{Ready, Running, Waiting, Done}
use Rattle.instances.specs.declared.step.Step.{Step}
use Rattle.instances.specs.AllInstances.{placed, instances_from, all_instances}
use Rattle.instances.specs.Known.{Known, total}
use Rattle.instances.specs.Listed.{CountsAll, CountsDone, if_waiting, if_done}
use Rattle.instances.specs.OfStep.{how_many, is_waiting, is_done}
use Rattle.instances.proofs.Counted.{Entry, front, weight}
use Rattle.instances.proofs.Picked.{are_all, are_the_done, done_in, names_of, waiting_in}

abbrev pub its_length : Step → ℕ
its_length step = length (entries step.instances.states)

all_length : (start : ℕ) (steps : List Step) → length (instances_from start steps) ≡ sum_by its_length steps
all_length start [] = refl
all_length start (step ∷ steps) =
    let es = entries step.instances.states in
    omega (arith, length-append (map (placed start) es) (instances_from (suc start) steps), length-map es (placed start), all_length (suc start) steps, front its_length step steps)

module _ {X : Type 0} (keep : Inst → State → Option X) (test : State → Bool) (one_more : (instance : Inst) (state : State) (rest : List X) → length (cons_option (keep instance state) rest) ≡ cond (test state) 1 0 + length rest) where
  -- what is kept of a walk, if an entry is kept exactly when its state passes the test
  abbrev kept : List (Inst × State) → List X
  kept es = filter_map (λ e. keep e.0 e.1) es

  of_step : (number : ℕ) (es : List Entry) → length (kept (map (placed number) es)) ≡ sum_by (weight test) es
  of_step number [] = refl
  of_step number (e ∷ es) = omega (arith, front (weight test) e es, one_more (placed number e).0 e.1 (kept (map (placed number) es)), of_step number es)

  kept_length : (start : ℕ) (steps : List Step) → length (kept (instances_from start steps)) ≡ sum_by (λ step. how_many test step.instances.states) steps
  kept_length start [] = refl
  kept_length start (step ∷ steps) =
      let es = entries step.instances.states in
      let others = instances_from (suc start) steps in
      omega (
        arith,
        ap length (filter_map-append (λ e. keep e.0 e.1) (map (placed start) es) others),
        length-append (kept (map (placed start) es)) (kept others),
        of_step start es,
        kept_length (suc start) steps,
        front (λ step. how_many test step.instances.states) step steps,
      )

one_more_done : (instance : Inst) (state : State) (rest : List Inst) → length (cons_option (if_done instance state) rest) ≡ cond (is_done state) 1 0 + length rest
one_more_done instance Ready rest = omega arith
one_more_done instance Running rest = omega arith
one_more_done instance (Waiting address) rest = omega arith
one_more_done instance Done rest = omega arith

one_more_waiting : (instance : Inst) (state : State) (rest : List (Inst × Addr)) → length (cons_option (if_waiting instance state) rest) ≡ cond (is_waiting state) 1 0 + length rest
one_more_waiting instance Ready rest = omega arith
one_more_waiting instance Running rest = omega arith
one_more_waiting instance (Waiting address) rest = omega arith
one_more_waiting instance Done rest = omega arith

pub waiting_length : (known : Known) → length (waiting_in (all_instances known)) ≡ total is_waiting known
waiting_length known = kept_length if_waiting is_waiting one_more_waiting 0 known.steps

pub counts_all : (known : Known) (count : ℕ) → count ≡ min (sum_by its_length known.steps) (2 ^ 64 - 1) → CountsAll known count
counts_all known count is =
    let all = all_instances known in
    (names_of all, are_all known, is ∙ ap (λ n. min n (2 ^ 64 - 1)) (sym (length-map all (λ e. e.0) ∙ all_length 0 known.steps)))

pub counts_done : (known : Known) (count : ℕ) → count ≡ min (total is_done known) (2 ^ 64 - 1) → CountsDone known count
counts_done known count is = (done_in (all_instances known), are_the_done known, is ∙ ap (λ n. min n (2 ^ 64 - 1)) (sym (kept_length if_done is_done one_more_done 0 known.steps)))
