-- Instances in a list, each of them once: none waits twice at an address.
use Rattle.std.specs.Prelude.{◌≡◌, ⊤, ℕ, Bool, true, false, cond, ◌||◌, List, [], ◌∷◌, ◌++◌, Option, Some, None, refl}
use Rattle.std.specs.List.{list_any}
use Rattle.std.specs.Option.{unwrap_or}
use Rattle.std.specs.Ordering.{eq_by_cmp}
use Rattle.std.specs.Cmp.{IsTotalOrder, eq_by_cmp_equiv}
use Rattle.std.specs.FinMap.{get, get-insert, get-remove}
use Rattle.std.proofs.Common.{ap, sym, subst, ◌∙◌}
use Rattle.std.proofs.lemmas.Bool.{false≢true, or_parts}
use Rattle.std.proofs.lemmas.List.Folds.{list_any-append}
use Rattle.terms.specs.declared.name.Addr.{Addr}
use Rattle.terms.specs.declared.name.Inst.{Inst}
use Rattle.terms.specs.Name.{inst_cmp}
use Rattle.terms.specs.Same.{is_same}
use Rattle.maps.specs.PlaceOrder.{places_total}
use Rattle.items.specs.Held.{Held, place, waiters_at, with_waiter, without_waiters}

-- the instance is one of these
abbrev pub is_one_of : Inst → List Inst → Bool
is_one_of instance list = list_any (eq_by_cmp inst_cmp instance) list

-- each instance stands in the list once
abbrev pub IsOnceEach : List Inst → Type 0
IsOnceEach [] = ⊤
IsOnceEach (first ∷ others) = (is_one_of first others ≡ false) × IsOnceEach others

-- two instances, each once; and one that stands there twice
abbrev instance_of : ℕ → Inst
instance_of number = record { collection = record { 0 = number }; key = [] }

pub two_are_once : IsOnceEach (instance_of 0 ∷ instance_of 1 ∷ [])
two_are_once = (refl, (refl, tt))

pub one_is_twice : IsOnceEach (instance_of 0 ∷ instance_of 1 ∷ instance_of 0 ∷ []) → ⊥
one_is_twice once = false≢true (sym once.0)

-- no instance waits twice at one address
abbrev pub WaitOnce : Held → Type 0
WaitOnce held = (address : Addr) → IsOnceEach (waiters_at held address)

-- ---- what keeps it

-- one more, which is not among them
pub once_more : IsTotalOrder inst_cmp → (list : List Inst) (instance : Inst) → IsOnceEach list → is_one_of instance list ≡ false → IsOnceEach (list ++ instance ∷ [])
once_more total [] instance once absent = (refl, tt)
once_more total (first ∷ others) instance once absent =
    let apart = or_parts (eq_by_cmp inst_cmp instance first) (is_one_of instance others) absent in (
      list_any-append (eq_by_cmp inst_cmp first) others (instance ∷ []) ∙ ap (λ b. b || (eq_by_cmp inst_cmp first instance || false)) once.0
          ∙ ap (λ b. b || false) ((eq_by_cmp_equiv total).symm first instance ∙ apart.0),
      once_more total others instance once.1 apart.1,
    )

-- who waits at an address where one more came to wait
pub waiters_after : (held : Held) (a : Addr) (i : Inst) (b : Addr) → waiters_at (with_waiter held a i) b ≡ cond (is_same b a) (waiters_at held a ++ i ∷ []) (waiters_at held b)
waiters_after held a i b =
    ap (λ (o : Option (List Inst)). unwrap_or o []) (get-insert places_total held.waiting (place a) (waiters_at held a ++ i ∷ []) (place b)) ∙ at (is_same b a)
  where
    at : (s : Bool) → unwrap_or (cond s (Some (waiters_at held a ++ i ∷ [])) (get held.waiting (place b))) [] ≡ cond s (waiters_at held a ++ i ∷ []) (waiters_at held b)
    at true = refl
    at false = refl

-- who waits at an address where nobody waits any more
waiters_left : (held : Held) (a b : Addr) → waiters_at (without_waiters held a) b ≡ cond (is_same b a) [] (waiters_at held b)
waiters_left held a b = ap (λ (o : Option (List Inst)). unwrap_or o []) (get-remove places_total held.waiting (place a) (place b)) ∙ at (is_same b a)
  where
    at : (s : Bool) → unwrap_or (cond s None (get held.waiting (place b))) [] ≡ cond s [] (waiters_at held b)
    at true = refl
    at false = refl

pub waits_once : IsTotalOrder inst_cmp → (held : Held) (a : Addr) (i : Inst) → WaitOnce held → is_one_of i (waiters_at held a) ≡ false → WaitOnce (with_waiter held a i)
waits_once total held a i once absent b = subst IsOnceEach (sym (waiters_after held a i b)) (at (is_same b a))
  where
    at : (s : Bool) → IsOnceEach (cond s (waiters_at held a ++ i ∷ []) (waiters_at held b))
    at true = once_more total (waiters_at held a) i (once a) absent
    at false = once b

pub left_once : (held : Held) (a : Addr) → WaitOnce held → WaitOnce (without_waiters held a)
left_once held a once b = subst IsOnceEach (sym (waiters_left held a b)) (at (is_same b a))
  where
    at : (s : Bool) → IsOnceEach (cond s [] (waiters_at held b))
    at true = tt
    at false = once b
