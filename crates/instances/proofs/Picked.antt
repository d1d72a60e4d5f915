-- An ordered list of which some entries are kept: these are in order, and are found with what was kept of them.
use Rattle.std.proofs.Common.{◌≡◌, ◌∙◌, ap, sym, refl, subst, T, Bool, true, false, cond, List, [], ◌∷◌, map, Option, Some, None, option_map, is_some, Result, Ok, Err, IfOk}
use mathlib.Core.Bool.{false≢true}
use Rattle.std.specs.Option.{option_and_then, unwrap_or}
use Rattle.std.specs.declared.cmp.Ordering.TheVariants.{Less}
use Rattle.std.specs.List.{AllByRecursion, cons_option, filter_map, list_any}
use Rattle.std.specs.List.Sorted.{IsStrictlySortedBy}
use Rattle.std.specs.Ordering.{is_lt, eq_by_cmp}
use Rattle.std.specs.Cmp.{Equal-is}
use Rattle.std.specs.FinMap.{find, is_sorted}
use Rattle.std.specs.FinMap.Entries.{below_all, is_some-find}
use Rattle.terms.specs.Name.{inst_cmp}
use Rattle.terms.specs.declared.name.Addr.{Addr}
use Rattle.terms.specs.declared.name.Inst.{Inst}
use Rattle.instances.specs.declared.state.State.{State}
use Rattle.instances.specs.declared.state.State.TheVariants.{Ready, Running, Waiting, Done}
use Rattle.instances.specs.AllInstances.{all_instances}
use Rattle.instances.specs.Known.{Known, state_at}
use Rattle.instances.specs.Listed.{AreAll, AreTheWaiting, AreTheDone, if_waiting, if_done}
use Rattle.instances.proofs.Below.{first, second, both, less, none_below}
use Rattle.instances.proofs.Order.{found, rises, same_instance}

abbrev Placed : Type 0 → Type 0
Placed V = List (Inst × V)

module _ {V : Type 0} (keep : State → Option V) where
  -- an entry with what is kept of its state
  abbrev one : Inst × State → Option (Inst × V)
  one e = option_map (λ v. (e.0, v)) (keep e.1)

  abbrev kept : Placed State → Placed V
  kept es = filter_map one es

  abbrev with_first : Inst → Option V → Placed V → Placed V
  with_first a o rest = cons_option (option_map (λ v. (a, v)) o) rest

  below_first : (a b : Inst) (o : Option V) (rest : Placed V) → T (is_lt (inst_cmp a b)) → T (below_all inst_cmp a rest) → T (below_all inst_cmp a (with_first b o rest))
  below_first a b None rest low below = below
  below_first a b (Some v) rest low below = both (is_lt (inst_cmp a b)) (below_all inst_cmp a rest) low below

  below_kept : (a : Inst) (es : Placed State) → T (below_all inst_cmp a es) → T (below_all inst_cmp a (kept es))
  below_kept a [] below = tt
  below_kept a (e ∷ es) below =
      below_first a e.0 (keep e.1) (kept es) (first (is_lt (inst_cmp a e.0)) (below_all inst_cmp a es) below) (below_kept a es (second (is_lt (inst_cmp a e.0)) (below_all inst_cmp a es) below))

  sorted_first : (a : Inst) (o : Option V) (rest : Placed V) → T (below_all inst_cmp a rest) → T (is_sorted inst_cmp rest) → T (is_sorted inst_cmp (with_first a o rest))
  sorted_first a None rest below sorted = sorted
  sorted_first a (Some v) rest below sorted = both (below_all inst_cmp a rest) (is_sorted inst_cmp rest) below sorted

  pub sorted_kept : (es : Placed State) → T (is_sorted inst_cmp es) → T (is_sorted inst_cmp (kept es))
  sorted_kept [] sorted = tt
  sorted_kept (e ∷ es) sorted =
      sorted_first e.0 (keep e.1) (kept es) (below_kept e.0 es (first (below_all inst_cmp e.0 es) (is_sorted inst_cmp es) sorted)) (sorted_kept es (second (below_all inst_cmp e.0 es) (is_sorted inst_cmp es) sorted))

  -- the first entry is the one that is looked for, or another
  is_first : (a b : Inst) (o : Option V) (rest : Placed V) → eq_by_cmp inst_cmp a b ≡ true → find inst_cmp a rest ≡ None → find inst_cmp a (with_first b o rest) ≡ o
  is_first a b None rest same none = none
  is_first a b (Some v) rest same none = ap (λ t. cond t (Some v) (find inst_cmp a rest)) same

  is_other : (a b : Inst) (o : Option V) (rest : Placed V) → eq_by_cmp inst_cmp a b ≡ false → find inst_cmp a (with_first b o rest) ≡ find inst_cmp a rest
  is_other a b None rest apart = refl
  is_other a b (Some v) rest apart = ap (λ t. cond t (Some v) (find inst_cmp a rest)) apart

  pub found_kept : (a : Inst) (es : Placed State) → T (is_sorted inst_cmp es) → find inst_cmp a (kept es) ≡ option_and_then keep (find inst_cmp a es)
  found_kept a [] sorted = refl
  found_kept a (e ∷ es) sorted = by_test (eq_by_cmp inst_cmp a e.0) refl (found_kept a es (second (below_all inst_cmp e.0 es) (is_sorted inst_cmp es) sorted))
    where
      by_test : (t : Bool) → eq_by_cmp inst_cmp a e.0 ≡ t → find inst_cmp a (kept es) ≡ option_and_then keep (find inst_cmp a es) →
          find inst_cmp a (with_first e.0 (keep e.1) (kept es)) ≡ option_and_then keep (cond (eq_by_cmp inst_cmp a e.0) (Some e.1) (find inst_cmp a es))
      by_test true same rest =
          let it = same_instance a e.0 ((Equal-is (inst_cmp a e.0)).0 same) in
          let none = ap (λ b. find inst_cmp b (kept es)) it ∙ none_below inst_cmp e.0 (kept es) (below_kept e.0 es (first (below_all inst_cmp e.0 es) (is_sorted inst_cmp es) sorted)) in
          is_first a e.0 (keep e.1) (kept es) same none ∙ ap (λ t. option_and_then keep (cond t (Some e.1) (find inst_cmp a es))) (sym same)
      by_test false apart rest =
          is_other a e.0 (keep e.1) (kept es) apart ∙ rest ∙ ap (λ t. option_and_then keep (cond t (Some e.1) (find inst_cmp a es))) (sym apart)

  -- the same for all instances that are known
  pub kept_of : (known : Known) (a : Inst) → find inst_cmp a (kept (all_instances known)) ≡ option_and_then keep (state_at known a)
  kept_of known a = found_kept a (all_instances known) (rises known) ∙ ap (option_and_then keep) (found known a)

-- rising keys are in strict order
each_below : {V : Type 0} (a : Inst) (es : Placed V) → T (below_all inst_cmp a es) → AllByRecursion (λ b. inst_cmp a b ≡ Less) (map (λ e. e.0) es)
each_below a [] below = tt
each_below a (e ∷ es) below =
    (less (inst_cmp a e.0) (first (is_lt (inst_cmp a e.0)) (below_all inst_cmp a es) below), each_below a es (second (is_lt (inst_cmp a e.0)) (below_all inst_cmp a es) below))

strictly : {V : Type 0} (es : Placed V) → T (is_sorted inst_cmp es) → IsStrictlySortedBy inst_cmp (map (λ e. e.0) es)
unfolding IsStrictlySortedBy
strictly [] sorted = tt
strictly (e ∷ es) sorted = (each_below e.0 es (first (below_all inst_cmp e.0 es) (is_sorted inst_cmp es) sorted), strictly es (second (below_all inst_cmp e.0 es) (is_sorted inst_cmp es) sorted))

-- ---- all of them

abbrev pub names_of : Placed State → List Inst
names_of es = map (λ e. e.0) es

pub are_all : (known : Known) → AreAll known (names_of (all_instances known))
are_all known = record {
  rises = strictly (all_instances known) (rises known);
  each = λ instance.
      let there = sym (is_some-find inst_cmp instance (all_instances known)) ∙ ap is_some (found known instance) in
      (λ is. sym there ∙ is, λ is. there ∙ is);
}

-- ---- those that wait

abbrev address_of : State → Option Addr
address_of Ready = None
address_of Running = None
address_of (Waiting address) = Some address
address_of Done = None

waiting_one : (instance : Inst) (state : State) → if_waiting instance state ≡ option_map (λ address. (instance, address)) (address_of state)
waiting_one instance Ready = refl
waiting_one instance Running = refl
waiting_one instance (Waiting address) = refl
waiting_one instance Done = refl

abbrev pub waiting_in : Placed State → Placed Addr
waiting_in es = filter_map (λ e. if_waiting e.0 e.1) es

as_kept : (es : Placed State) → waiting_in es ≡ filter_map (one address_of) es
as_kept [] = refl
as_kept (e ∷ es) = λ i. cons_option (waiting_one e.0 e.1 i) (as_kept es i)

waits_there : (o : Option State) (address : Addr) → option_and_then address_of o ≡ Some address → o ≡ Some (Waiting address)
waits_there None address is = absurd (cc)
waits_there (Some Ready) address is = absurd (cc)
waits_there (Some Running) address is = absurd (cc)
waits_there (Some (Waiting other)) address is = ap (λ o. Some (Waiting (unwrap_or o other))) is
waits_there (Some Done) address is = absurd (cc)

pub are_the_waiting : (known : Known) → AreTheWaiting known (waiting_in (all_instances known))
are_the_waiting known = record {
  rises = subst (λ es. T (is_sorted inst_cmp es)) (sym (as_kept (all_instances known))) (sorted_kept address_of (all_instances known) (rises known));
  each = λ instance address.
      let there = ap (find inst_cmp instance) (as_kept (all_instances known)) ∙ kept_of address_of known instance in (
        λ is. waits_there (state_at known instance) address (sym there ∙ is),
        λ is. there ∙ ap (option_and_then address_of) is,
      );
}

-- ---- those that are done

abbrev end_of : State → Option (Unit {0})
end_of Ready = None
end_of Running = None
end_of (Waiting address) = None
end_of Done = Some tt

abbrev pub done_in : Placed State → List Inst
done_in es = filter_map (λ e. if_done e.0 e.1) es

done_first : (instance : Inst) (state : State) (rest : List Inst) (kept_rest : Placed (Unit {0})) → rest ≡ map (λ e. e.0) kept_rest →
    cons_option (if_done instance state) rest ≡ map (λ e. e.0) (cons_option (option_map (λ v. (instance, v)) (end_of state)) kept_rest)
done_first instance Ready rest kept_rest same = same
done_first instance Running rest kept_rest same = same
done_first instance (Waiting address) rest kept_rest same = same
done_first instance Done rest kept_rest same = ap (λ more. instance ∷ more) same

done_as_kept : (es : Placed State) → done_in es ≡ map (λ e. e.0) (filter_map (one end_of) es)
done_as_kept [] = refl
done_as_kept (e ∷ es) = done_first e.0 e.1 (done_in es) (filter_map (one end_of) es) (done_as_kept es)

ended_there : (o : Option State) → is_some (option_and_then end_of o) ≡ true → o ≡ Some Done
ended_there None is = absurd (false≢true is)
ended_there (Some Ready) is = absurd (false≢true is)
ended_there (Some Running) is = absurd (false≢true is)
ended_there (Some (Waiting other)) is = absurd (false≢true is)
ended_there (Some Done) is = refl

pub are_the_done : (known : Known) → AreTheDone known (done_in (all_instances known))
are_the_done known =
    let all = all_instances known in
    record {
      rises = subst (IsStrictlySortedBy inst_cmp) (sym (done_as_kept all)) (strictly (filter_map (one end_of) all) (sorted_kept end_of all (rises known)));
      each = λ instance.
          let there = ap (list_any (eq_by_cmp inst_cmp instance)) (done_as_kept all) ∙ sym (is_some-find inst_cmp instance (filter_map (one end_of) all)) ∙ ap is_some (kept_of end_of known instance) in (
            λ is. ended_there (state_at known instance) (sym there ∙ is),
            λ is. there ∙ ap (λ o. is_some (option_and_then end_of o)) is,
          );
    }

-- what holds for the list that was made also holds for the list in the vector
pub listed_of : {L X E : Type 0} (items : L → List X) (Is : List X → Type 0) (made list : List X) (r : Result L E) → IfOk r (λ l. items l ≡ made) → made ≡ list → Is list → IfOk r (λ l. Is (items l))
listed_of items Is made list (Ok l) same known is = subst Is (sym (same ∙ known)) is
listed_of items Is made list (Err error) same known is = tt
