-- The worked examples.
use Rattle.std.proofs.Common.{◌≡◌, ◌⊎◌, ℕ, zero, suc, ℤ, pos, true, false, ◌||◌, List, [], ◌∷◌, ◌++◌, Some, slice_get, inl, inr, refl, sym, ap, subst, ◌∙◌, arith}
use Rattle.std.specs.List.{AllByRecursion}
use Rattle.std.proofs.lemmas.Bool.{false≢true}
use Rattle.terms.specs.declared.name.Addr.{Addr}
use Rattle.terms.specs.declared.name.Tag.{Tag}
use Rattle.terms.specs.declared.name.Inst.{Inst}
use Rattle.terms.specs.declared.fault.FaultKind.{FaultKind}
use Rattle.terms.specs.declared.fault.FaultKind.TheVariants.{DoublePut}
use Rattle.terms.specs.declared.producer.Producer.{Producer}
use Rattle.terms.specs.declared.producer.Producer.TheVariants.{Env, By}
use Rattle.terms.specs.declared.put.Put.{Put}
use Rattle.terms.specs.declared.put.Put.TheVariants as put
use Rattle.terms.specs.declared.event.Event.{Event}
use Rattle.terms.specs.declared.event.Event.TheVariants.{EnvItem, EnvTag, Stopped}
use Rattle.terms.specs.Facts.{Fact, tag, item, done, bad, facts, environment}
use Rattle.terms.specs.Sets.{Facts, is_fact, among, OneFact, AmongBoth, stated}
use Rattle.steptree.specs.Bodies.{Ending, Gives, Asks, Along}
use Rattle.steptree.specs.Laws.{LookUpEndsOnce}
use Rattle.graph.specs.Graph.{Graph, Step, Prescribes, BodyMeans, EnvironmentMayPutItem, EnvironmentMayPutTag}
use Rattle.graph.specs.Fits.{IsAbsent, IsPrescribed, AreNew}
use Rattle.machine.specs.Meaning.{items, BodyGives, IsClosed}
use Rattle.machine.specs.Legal.{IsLegal, AreLegal, IsBlocked, IsQuiet}
use Rattle.machine.specs.Laws.{IsThere}
use Rattle.steptree.specs.declared.expression.Operator.TheVariants as operator
use Rattle.steptree.specs.Tree.{Variable, Operation}
use Rattle.steptree.specs.Tree.{End, Do}
use Rattle.steptree.specs.declared.simple.Simple.TheVariants.{Get, PutItem}
use Rattle.graph.specs.Examples.{behind, fibonacci}
use Rattle.machine.specs.Examples.{twice, fib, n, add, put_fib, added, in_two_parts, one_by_one, one_number, conflict, enabled, FiveNumbers, OneNumber, Conflict, PutTwice, Refused}
use Rattle.machine.proofs.Sets.{either, not_both, the_first, Within, of_list}
use Rattle.machine.proofs.Grown.{one_ending}
use Rattle.machine.proofs.Within.{kept_from_nothing, stays_within}
use Rattle.machine.proofs.Quiet.{one_end, stopped_or_quiet}

-- one item at an absent address is new
pub new_one : (X : Facts) (address : Addr) (value : ℤ) → IsAbsent X address → AreNew X (put.Item address value ∷ [])
new_one X address value absent = record { absent = λ other it. here other it.0 it.1 it.2; distinct = λ other it. no other it.0 it.1 it.2 it.3 }
  where
    here : (other : Addr) (before behind : List Addr) → address ∷ [] ≡ before ++ other ∷ behind → IsAbsent X other
    here other [] behind same = subst (λ (a : Addr). IsAbsent X a) (heads same) absent
      where
        heads : address ∷ [] ≡ other ∷ behind → address ≡ other
        heads same = cc
    here other (x ∷ []) behind same = absurd (cc)
    here other (x ∷ y ∷ xs) behind same = absurd (cc)

    no : (other : Addr) (before between behind : List Addr) → address ∷ [] ≡ before ++ other ∷ between ++ other ∷ behind → ⊥
    no other [] [] behind same = cc
    no other [] (x ∷ xs) behind same = cc
    no other (x ∷ []) between behind same = cc
    no other (x ∷ y ∷ xs) between behind same = cc

-- the only step of a graph with one step
only_step : (step other : Step) (number : ℕ) → slice_get (step ∷ []) number ≡ Some other → 0 ≡ number
only_step step other zero same = refl
only_step step other (suc number) same = absurd (cc)

same_tag : (one two : Tag) → tag one ≡ tag two → one ≡ two
same_tag one two same = cc

same_instance : (number : ℕ) (key other_key : List ℤ) (instance : Inst) → instance.collection.0 ≡ number → instance.key ≡ key → record { collection = record { 0 = number }; key = key } ≡ instance
same_instance number key other_key instance one two = λ i. record { collection = record { 0 = sym one i }; key = sym two i }

-- in a graph with one step, an instance that a tag prescribes
module _ (g : Graph) (step : Step) (only : g.steps ≡ step ∷ []) where
  of_tag : (number : ℕ) (instance : Inst) → Prescribes g (n number) instance → add number ≡ instance
  of_tag number instance it =
      same_instance 0 (pos number ∷ []) [] instance
      (sym (only_step step it.step instance.collection.0 (ap (λ (steps : List Step). slice_get steps instance.collection.0) (sym only) ∙ it.is_step))) (sym it.key)

-- if each fact of a list is in a set, all facts among the list are
pub all_in : OneFact → (list : List Fact) (Y : Facts) → AllByRecursion (λ fact. Y fact ≡ true) list → Within (among list) Y
all_in told [] Y all fact there = absurd (false≢true there)
all_in told (first ∷ rest) Y all fact there =
    elim (of_list told first rest fact there) [ inl same ↦ subst (λ (f : Fact). Y f ≡ true) same all.0 | inr later ↦ all_in told rest Y all.1 fact later ]

-- an instance of a set that has one tag, and of one that has four
one_tag : (told : OneFact) (name : Tag) → among (tag (n 2) ∷ []) (tag name) ≡ true → n 2 ≡ name
one_tag told name there = elim (either _ false there) [ inl it ↦ same_tag (n 2) name ((told (tag (n 2)) (tag name)).1 it) | inr none ↦ absurd (false≢true none) ]

abbrev G : Graph
G = fibonacci

prescribed : (X : Facts) (k : ℕ) → X (tag (n k)) ≡ true → IsPrescribed G X (add k)
prescribed X k there = (n k, there, record { step = _; is_step = refl; prescriber = refl; key = refl })

may_put : (k : ℕ) → EnvironmentMayPutItem G (fib k)
may_put k = ((_, refl, refl), refl)

may_tag : (k : ℕ) → EnvironmentMayPutTag G (n k)
may_tag k = ((_, refl, refl), refl)

-- along two reads the body gives their sum
gives : (X : Facts) (k : ℕ) (a b x y : ℤ) (sum : ℤ)
    → (of_one of_two : Producer) → X (item (record { collection = record { 0 = 0 }; key = a ∷ [] }) x of_one) ≡ true → X (item (record { collection = record { 0 = 0 }; key = b ∷ [] }) y of_two) ≡ true
    → Along (record { read = Do (Get 1 (record { 0 = 0 }) (behind 1 ∷ [])) (Do (Get 2 (record { 0 = 0 }) (behind 2 ∷ [])) End); write = Do (PutItem (record { 0 = 0 }) (Variable 0 ∷ []) (Operation operator.Add (Variable 1) (Variable 2))) End })
    (pos k ∷ []) ((record { collection = record { 0 = 0 }; key = a ∷ [] }, x) ∷ (record { collection = record { 0 = 0 }; key = b ∷ [] }, y) ∷ []) (Gives (put.Item (fib k) sum ∷ []))
    → BodyGives G X (add k) (put.Item (fib k) sum ∷ [])
gives X k a b x y sum of_one of_two one two along = record {
  step = _;
  is_step = refl;
  means = record { reads = _; among = ((of_one, one), ((of_two, two), tt)); along = along; needs = λ address asks. absurd (cc) };
}

-- the events of the lists
legal_item : (X : Facts) (k v : ℕ) → ((i : Inst) (kind : FaultKind) → X (bad i kind) ≡ false) → IsAbsent X (fib k) → IsLegal G X (put_fib k v)
legal_item X k v working absent = record { working = working; event_is_legal = (may_put k, absent) }

legal_tag : (X : Facts) (k : ℕ) → ((i : Inst) (kind : FaultKind) → X (bad i kind) ≡ false) → X (tag (n k)) ≡ false → IsLegal G X (EnvTag (n k))
legal_tag X k working absent = record { working = working; event_is_legal = (may_tag k, absent) }

legal_added : (X : Facts) (k v : ℕ) → ((i : Inst) (kind : FaultKind) → X (bad i kind) ≡ false) → X (tag (n k)) ≡ true → X (done (add k)) ≡ false
    → BodyGives G X (add k) (put.Item (fib k) (pos v) ∷ []) → IsAbsent X (fib k) → IsLegal G X (added k v)
legal_added X k v working there not_done it absent = record { working = working; event_is_legal = (prescribed X k there, not_done, it, new_one X (fib k) (pos v) absent) }

enabled_legal : AreLegal G [] enabled
enabled_legal = (
  legal_item (stated ([])) 0 0 (λ i kind. refl) (λ value by. refl),
  (
    legal_item (stated (put_fib 0 0 ∷ [])) 1 1 (λ i kind. refl) (λ value by. refl),
    (
      legal_tag (stated (put_fib 0 0 ∷ put_fib 1 1 ∷ [])) 2 (λ i kind. refl) refl,
      tt,
    ),
  ),
)

in_two_parts_legal : AreLegal G [] in_two_parts
in_two_parts_legal = (
  legal_tag (stated ([])) 2 (λ i kind. refl) refl,
  (
    legal_tag (stated (EnvTag (n 2) ∷ [])) 3 (λ i kind. refl) refl,
    (
      legal_tag (stated (EnvTag (n 2) ∷ EnvTag (n 3) ∷ [])) 4 (λ i kind. refl) refl,
      (
        legal_tag (stated (EnvTag (n 2) ∷ EnvTag (n 3) ∷ EnvTag (n 4) ∷ [])) 5 (λ i kind. refl) refl,
        (
          legal_item (stated (EnvTag (n 2) ∷ EnvTag (n 3) ∷ EnvTag (n 4) ∷ EnvTag (n 5) ∷ [])) 0 0 (λ i kind. refl) (λ value by. refl),
          (
            legal_item (stated (EnvTag (n 2) ∷ EnvTag (n 3) ∷ EnvTag (n 4) ∷ EnvTag (n 5) ∷ put_fib 0 0 ∷ [])) 1 1 (λ i kind. refl) (λ value by. refl),
            (
              legal_added (stated (EnvTag (n 2) ∷ EnvTag (n 3) ∷ EnvTag (n 4) ∷ EnvTag (n 5) ∷ put_fib 0 0 ∷ put_fib 1 1 ∷ [])) 2 1 (λ i kind. refl) refl refl (gives (stated (EnvTag (n 2) ∷ EnvTag (n 3) ∷ EnvTag (n 4) ∷ EnvTag (n 5) ∷ put_fib 0 0 ∷ put_fib 1 1 ∷ [])) 2 (pos 1) (pos 0) (pos 1) (pos 0) (pos 1) Env Env refl refl refl) (λ value by. refl),
              (
                legal_added (stated (EnvTag (n 2) ∷ EnvTag (n 3) ∷ EnvTag (n 4) ∷ EnvTag (n 5) ∷ put_fib 0 0 ∷ put_fib 1 1 ∷ added 2 1 ∷ [])) 3 2 (λ i kind. refl) refl refl (gives (stated (EnvTag (n 2) ∷ EnvTag (n 3) ∷ EnvTag (n 4) ∷ EnvTag (n 5) ∷ put_fib 0 0 ∷ put_fib 1 1 ∷ added 2 1 ∷ [])) 3 (pos 2) (pos 1) (pos 1) (pos 1) (pos 2) (By (add 2) 0) Env refl refl refl) (λ value by. refl),
                (
                  legal_added (stated (EnvTag (n 2) ∷ EnvTag (n 3) ∷ EnvTag (n 4) ∷ EnvTag (n 5) ∷ put_fib 0 0 ∷ put_fib 1 1 ∷ added 2 1 ∷ added 3 2 ∷ [])) 4 3 (λ i kind. refl) refl refl (gives (stated (EnvTag (n 2) ∷ EnvTag (n 3) ∷ EnvTag (n 4) ∷ EnvTag (n 5) ∷ put_fib 0 0 ∷ put_fib 1 1 ∷ added 2 1 ∷ added 3 2 ∷ [])) 4 (pos 3) (pos 2) (pos 2) (pos 1) (pos 3) (By (add 3) 0) (By (add 2) 0) refl refl refl) (λ value by. refl),
                  (
                    legal_added (stated (EnvTag (n 2) ∷ EnvTag (n 3) ∷ EnvTag (n 4) ∷ EnvTag (n 5) ∷ put_fib 0 0 ∷ put_fib 1 1 ∷ added 2 1 ∷ added 3 2 ∷ added 4 3 ∷ [])) 5 5 (λ i kind. refl) refl refl (gives (stated (EnvTag (n 2) ∷ EnvTag (n 3) ∷ EnvTag (n 4) ∷ EnvTag (n 5) ∷ put_fib 0 0 ∷ put_fib 1 1 ∷ added 2 1 ∷ added 3 2 ∷ added 4 3 ∷ [])) 5 (pos 4) (pos 3) (pos 3) (pos 2) (pos 5) (By (add 4) 0) (By (add 3) 0) refl refl refl) (λ value by. refl),
                    tt,
                  ),
                ),
              ),
            ),
          ),
        ),
      ),
    ),
  ),
)

one_by_one_legal : AreLegal G [] one_by_one
one_by_one_legal = (
  legal_item (stated ([])) 1 1 (λ i kind. refl) (λ value by. refl),
  (
    legal_item (stated (put_fib 1 1 ∷ [])) 0 0 (λ i kind. refl) (λ value by. refl),
    (
      legal_tag (stated (put_fib 1 1 ∷ put_fib 0 0 ∷ [])) 2 (λ i kind. refl) refl,
      (
        legal_added (stated (put_fib 1 1 ∷ put_fib 0 0 ∷ EnvTag (n 2) ∷ [])) 2 1 (λ i kind. refl) refl refl (gives (stated (put_fib 1 1 ∷ put_fib 0 0 ∷ EnvTag (n 2) ∷ [])) 2 (pos 1) (pos 0) (pos 1) (pos 0) (pos 1) Env Env refl refl refl) (λ value by. refl),
        (
          legal_tag (stated (put_fib 1 1 ∷ put_fib 0 0 ∷ EnvTag (n 2) ∷ added 2 1 ∷ [])) 3 (λ i kind. refl) refl,
          (
            legal_added (stated (put_fib 1 1 ∷ put_fib 0 0 ∷ EnvTag (n 2) ∷ added 2 1 ∷ EnvTag (n 3) ∷ [])) 3 2 (λ i kind. refl) refl refl (gives (stated (put_fib 1 1 ∷ put_fib 0 0 ∷ EnvTag (n 2) ∷ added 2 1 ∷ EnvTag (n 3) ∷ [])) 3 (pos 2) (pos 1) (pos 1) (pos 1) (pos 2) (By (add 2) 0) Env refl refl refl) (λ value by. refl),
            (
              legal_tag (stated (put_fib 1 1 ∷ put_fib 0 0 ∷ EnvTag (n 2) ∷ added 2 1 ∷ EnvTag (n 3) ∷ added 3 2 ∷ [])) 4 (λ i kind. refl) refl,
              (
                legal_added (stated (put_fib 1 1 ∷ put_fib 0 0 ∷ EnvTag (n 2) ∷ added 2 1 ∷ EnvTag (n 3) ∷ added 3 2 ∷ EnvTag (n 4) ∷ [])) 4 3 (λ i kind. refl) refl refl (gives (stated (put_fib 1 1 ∷ put_fib 0 0 ∷ EnvTag (n 2) ∷ added 2 1 ∷ EnvTag (n 3) ∷ added 3 2 ∷ EnvTag (n 4) ∷ [])) 4 (pos 3) (pos 2) (pos 2) (pos 1) (pos 3) (By (add 3) 0) (By (add 2) 0) refl refl refl) (λ value by. refl),
                (
                  legal_tag (stated (put_fib 1 1 ∷ put_fib 0 0 ∷ EnvTag (n 2) ∷ added 2 1 ∷ EnvTag (n 3) ∷ added 3 2 ∷ EnvTag (n 4) ∷ added 4 3 ∷ [])) 5 (λ i kind. refl) refl,
                  (
                    legal_added (stated (put_fib 1 1 ∷ put_fib 0 0 ∷ EnvTag (n 2) ∷ added 2 1 ∷ EnvTag (n 3) ∷ added 3 2 ∷ EnvTag (n 4) ∷ added 4 3 ∷ EnvTag (n 5) ∷ [])) 5 5 (λ i kind. refl) refl refl (gives (stated (put_fib 1 1 ∷ put_fib 0 0 ∷ EnvTag (n 2) ∷ added 2 1 ∷ EnvTag (n 3) ∷ added 3 2 ∷ EnvTag (n 4) ∷ added 4 3 ∷ EnvTag (n 5) ∷ [])) 5 (pos 4) (pos 3) (pos 3) (pos 2) (pos 5) (By (add 4) 0) (By (add 3) 0) refl refl refl) (λ value by. refl),
                    tt,
                  ),
                ),
              ),
            ),
          ),
        ),
      ),
    ),
  ),
)

one_number_legal : AreLegal G [] one_number
one_number_legal = (
  legal_item (stated ([])) 0 0 (λ i kind. refl) (λ value by. refl),
  (
    legal_tag (stated (put_fib 0 0 ∷ [])) 2 (λ i kind. refl) refl,
    tt,
  ),
)

conflict_legal : AreLegal G [] (conflict ++ Stopped (add 2) DoublePut ∷ [])
conflict_legal = (
  legal_item (stated ([])) 0 0 (λ i kind. refl) (λ value by. refl),
  (
    legal_item (stated (put_fib 0 0 ∷ [])) 1 1 (λ i kind. refl) (λ value by. refl),
    (
      legal_item (stated (put_fib 0 0 ∷ put_fib 1 1 ∷ [])) 2 7 (λ i kind. refl) (λ value by. refl),
      (
        legal_tag (stated (put_fib 0 0 ∷ put_fib 1 1 ∷ put_fib 2 7 ∷ [])) 2 (λ i kind. refl) refl,
        (
          record { working = λ i kind. refl; event_is_legal = (prescribed (stated conflict) 2 refl, refl, inr (refl, (put.Item (fib 2) (pos 1) ∷ [], gives (stated conflict) 2 (pos 1) (pos 0) (pos 1) (pos 0) (pos 1) Env Env refl refl refl, (fib 2, inr (([], [], refl), (pos 7, Env, refl)))))) },
          tt,
        ),
      ),
    ),
  ),
)

-- an instance of the tag with this number is done
is_done : (X : Facts) (k : ℕ) → X (done (add k)) ≡ true → (instance : Inst) → Prescribes G (n k) instance → (X (done instance) ≡ true) ⊎ IsBlocked G X instance
is_done X k there instance it = inl (subst (λ (i : Inst). X (done i) ≡ true) (of_tag G _ refl k instance it) there)

module _ (told : OneFact) where
  one_of_four : (P : Tag → Type 0) → P (n 2) → P (n 3) → P (n 4) → P (n 5) → (name : Tag)
      → (is_fact (tag (n 2)) (tag name) || (is_fact (tag (n 3)) (tag name) || (is_fact (tag (n 4)) (tag name) || (is_fact (tag (n 5)) (tag name) || false)))) ≡ true → P name
  one_of_four P two three four five name there =
      elim (either (is_fact (tag (n 2)) (tag name)) _ there) [
        | inl it ↦ at 2 it two
        | inr later ↦ elim (either (is_fact (tag (n 3)) (tag name)) _ later) [
          | inl it ↦ at 3 it three
          | inr later ↦ elim (either (is_fact (tag (n 4)) (tag name)) _ later) [
            | inl it ↦ at 4 it four
            | inr later ↦ elim (either (is_fact (tag (n 5)) (tag name)) false later) [
              | inl it ↦ at 5 it five
              | inr none ↦ absurd (false≢true none)
            ]
          ]
        ]
      ]
    where
      at : (k : ℕ) → is_fact (tag (n k)) (tag name) ≡ true → P (n k) → P name
      at k it p = subst (λ (t : Tag). P t) (same_tag (n k) name ((told (tag (n k)) (tag name)).1 it)) p

  abbrev Ends : Facts → Tag → Type 0
  Ends X name = (instance : Inst) → Prescribes G name instance → (X (done instance) ≡ true) ⊎ IsBlocked G X instance

  in_two_parts_quiet : IsQuiet G (stated in_two_parts)
  in_two_parts_quiet = record {
    no_fault = λ i kind. refl;
    done_or_blocked = λ instance it. one_of_four (Ends (stated in_two_parts)) (is_done (stated in_two_parts) 2 refl) (is_done (stated in_two_parts) 3 refl) (is_done (stated in_two_parts) 4 refl) (is_done (stated in_two_parts) 5 refl) it.0 it.1 instance it.2;
  }

  one_by_one_quiet : IsQuiet G (stated one_by_one)
  one_by_one_quiet = record {
    no_fault = λ i kind. refl;
    done_or_blocked = λ instance it. one_of_four (Ends (stated one_by_one)) (is_done (stated one_by_one) 2 refl) (is_done (stated one_by_one) 3 refl) (is_done (stated one_by_one) 4 refl) (is_done (stated one_by_one) 5 refl) it.0 it.1 instance it.2;
  }

  -- an item of one number alone is that number
  no_other : (value : ℤ) (by : Producer) → stated one_number (item (fib 1) value by) ≡ true → ⊥
  no_other value by there = false≢true there

  one_number_needs : BodyMeans G (add 2) (items (stated one_number)) (Asks (fib 1))
  one_number_needs = record {
    step = _;
    is_step = refl;
    means = record { reads = []; among = tt; along = refl; needs = λ address asks value there. no_other value there.0 (subst (λ (a : Addr). stated one_number (item a value there.0) ≡ true) (sym (asked address asks)) there.1) };
  }
    where
      asked : (address : Addr) → Asks (fib 1) ≡ Asks address → fib 1 ≡ address
      asked address same = cc

  one_number_quiet : IsQuiet G (stated one_number)
  one_number_quiet = record {
    no_fault = λ i kind. refl;
    done_or_blocked = λ instance it. inr (subst (λ (i : Inst). IsBlocked G (stated one_number) i) (of_tag G _ refl 2 instance (subst (λ (t : Tag). Prescribes G t instance) (sym (one_tag told it.0 it.1)) it.2)) (fib 1, one_number_needs));
  }

  pub one_number_row : OneNumber
  one_number_row = record { legal = one_number_legal; quiet = one_number_quiet; needs = one_number_needs }

  module _ (both : AmongBoth) (once : LookUpEndsOnce) where
    pub five_numbers_row : FiveNumbers
    five_numbers_row = record {
      first_legal = in_two_parts_legal;
      first_quiet = in_two_parts_quiet;
      second_legal = one_by_one_legal;
      second_quiet = one_by_one_quiet;
      same = one_end told both once G in_two_parts one_by_one in_two_parts_legal one_by_one_legal first_there second_there in_two_parts_quiet one_by_one_quiet;
      fifth = stays_within told both G one_by_one one_by_one_legal (item (fib 5) (pos 5) (By (add 5) 0)) refl;
    }
      where
        first_there : IsThere in_two_parts one_by_one
        first_there = all_in told (environment in_two_parts) (stated one_by_one) (refl, (refl, (refl, (refl, (refl, (refl, tt))))))

        second_there : IsThere one_by_one in_two_parts
        second_there = all_in told (environment one_by_one) (stated in_two_parts) (refl, (refl, (refl, (refl, (refl, (refl, tt))))))

    pub conflict_row : Conflict
    conflict_row = record {
      legal = conflict_legal;
      never_quiet = λ other legal there quiet. stopped_or_quiet told both once G conflict other (add 2) DoublePut conflict_legal legal there quiet;
    }

-- ---- what is rejected

module _ (told : OneFact) (both : AmongBoth) (once : LookUpEndsOnce) where
  added_two : BodyGives G (stated enabled) (add 2) (put.Item (fib 2) (pos 1) ∷ [])
  added_two = gives (stated enabled) 2 (pos 1) (pos 0) (pos 1) (pos 0) (pos 1) Env Env refl refl refl

  two_prescribed : IsPrescribed G (stated enabled) (add 2)
  two_prescribed = prescribed (stated enabled) 2 refl

  unique : (one two : Ending) → BodyMeans G (add 2) (items (stated enabled)) one → BodyMeans G (add 2) (items (stated enabled)) two → one ≡ two
  unique = one_ending told (facts enabled) (kept_from_nothing told both G enabled enabled_legal).one_item once G (add 2)

  not_quiet : IsQuiet G (stated enabled) → ⊥
  not_quiet quiet = elim (quiet.done_or_blocked (add 2) two_prescribed) [
    | inl is_done ↦ false≢true is_done
    | inr blocked ↦ no blocked.0 (unique (Asks blocked.0) (Gives (put.Item (fib 2) (pos 1) ∷ [])) blocked.1 added_two)
  ]
    where
      no : (address : Addr) → Asks address ≡ Gives (put.Item (fib 2) (pos 1) ∷ []) → ⊥
      no address same = cc

  none_prescribed : (instance : Inst) → IsPrescribed G (among []) instance → ⊥
  none_prescribed instance it = false≢true it.1

  none_closed : IsClosed G (among []) (among [])
  none_closed = record {
    environment = λ fact there. there;
    done = λ instance puts it given. absurd (none_prescribed instance it);
    puts = λ instance puts it given fact there. absurd (none_prescribed instance it);
    doubled = λ instance puts it given double. absurd (none_prescribed instance it);
    faults = λ instance kind it given. absurd (none_prescribed instance it);
  }

  all_closed : IsClosed G (among []) (λ fact. true)
  all_closed = record {
    environment = λ fact there. refl;
    done = λ instance puts it given. refl;
    puts = λ instance puts it given fact there. refl;
    doubled = λ instance puts it given double. refl;
    faults = λ instance kind it given. refl;
  }

  not_twice : (v w : ℤ) → AreLegal G [] (EnvItem (fib 0) v ∷ EnvItem (fib 0) w ∷ []) → ⊥
  not_twice v w legal =
      not_both (among (item (fib 0) v Env ∷ []) (item (fib 0) v Env)) (the_first told (item (fib 0) v Env) []) (legal.1.0.event_is_legal.1 v Env)

  not_another : AreLegal G [] (enabled ++ added 2 2 ∷ []) → ⊥
  not_another legal = no (unique (Gives (put.Item (fib 2) (pos 2) ∷ [])) (Gives (put.Item (fib 2) (pos 1) ∷ [])) legal.1.1.1.0.event_is_legal.2 added_two)
    where
      number : ℤ → ℕ
      number (pos k) = k
      number other = 0

      value : Ending → ℕ
      value (Gives (put.Item address v ∷ [])) = number v
      value ending = 0

      no : Gives (put.Item (fib 2) (pos 2) ∷ []) ≡ Gives (put.Item (fib 2) (pos 1) ∷ []) → ⊥
      no same = omega (arith, ap value same)

  pub refused_row : Refused
  refused_row = record {
    not_quiet = not_quiet;
    not_closed = λ closed. false≢true (closed.done (add 2) (put.Item (fib 2) (pos 1) ∷ []) two_prescribed added_two);
    all_closed = all_closed;
    none_closed = none_closed;
    not_meant = λ meant. false≢true (meant (among []) none_closed);
    not_twice = not_twice;
    no_repeat = λ legal. false≢true (sym legal.1.0.event_is_legal.1);
    not_again = λ legal. false≢true (sym legal.1.1.1.1.0.event_is_legal.1);
    not_another = not_another;
    nothing_behind = λ legal. false≢true (sym (legal.1.1.1.1.1.0.working (add 2) DoublePut));
  }

-- ---- one item twice

module _ (told : OneFact) (both : AmongBoth) (once : LookUpEndsOnce) where
  abbrev T : Graph
  T = twice

  abbrev tagged : List Event
  tagged = EnvTag (n 1) ∷ []

  abbrev out_twice : List Put
  out_twice = put.Item (fib 1) (pos 1) ∷ put.Item (fib 1) (pos 1) ∷ []

  tag_legal : IsLegal T (among []) (EnvTag (n 1))
  tag_legal = record { working = λ i kind. refl; event_is_legal = (((_, refl, refl), refl), refl) }

  gives_twice : BodyGives T (stated tagged) (add 1) out_twice
  gives_twice = record { step = _; is_step = refl; means = record { reads = []; among = tt; along = refl; needs = λ address asks. absurd (cc) } }

  stopped_legal : IsLegal T (stated tagged) (Stopped (add 1) DoublePut)
  stopped_legal = record {
    working = λ i kind. refl;
    event_is_legal = ((n 1, refl, record { step = _; is_step = refl; prescriber = refl; key = refl }), refl, inr (refl, (out_twice, gives_twice, (fib 1, inl ([], [], [], refl)))));
  }

  pub twice_row : PutTwice
  twice_row = record {
    legal = (tag_legal, (stopped_legal, tt));
    not_done = λ puts legal.
        (let same = one_ending told (facts tagged) (kept_from_nothing told both T tagged (tag_legal, tt)).one_item once T (add 1) (Gives puts) (Gives out_twice) legal.event_is_legal.2 gives_twice in
        (subst (λ (list : List Put). AreNew (stated tagged) list) (same_puts puts same) legal.event_is_legal.3).distinct (fib 1) ([], [], [], refl));
  }
    where
      same_puts : (puts : List Put) → Gives puts ≡ Gives out_twice → puts ≡ out_twice
      same_puts puts same = cc
