-- How many done instances of the store are still to be replayed.
use Rattle.std.proofs.Common.{◌≡◌, ◌∙◌, ℕ, ◌+◌, ◌<◌, ◌≤◌, Bool, true, false, cond, ◌||◌, List, [], ◌∷◌, inl, inr, refl, sym, ap, subst, arith}
use Rattle.std.proofs.lemmas.Bool.{false≢true}
use Rattle.std.specs.List.{list_any}
use Rattle.std.specs.Ordering.{eq_by_cmp}
use Rattle.terms.specs.Name.{inst_cmp}
use Rattle.terms.specs.declared.name.Inst.{Inst}
use Rattle.terms.specs.Facts.{done}
use Rattle.terms.specs.Sets.{OneFact}
use Rattle.instances.specs.Listed.{AreTheDone, all_done}
use Rattle.machine.specs.Machine.{Machine, facts}
use Rattle.machine.specs.Marked.{Marks, marked}
use Rattle.machine.specs.Promise.{IsKept}
use Rattle.machine.proofs.Sets.{either}
use Rattle.audit.specs.Replayed.{Grows, ReplaysOne}
use Rattle.audit.proofs.Left.{IsIn}

-- how many of these are not marked
abbrev pub left_of : Marks → List Inst → ℕ
left_of m [] = 0
left_of m (instance ∷ list) = cond (marked m (done instance)) 0 1 + left_of m list

abbrev pub to_replay : Machine → Marks → ℕ
to_replay store m = left_of m (all_done store.memory.instances)

module _ (old new : Marks) (grows : Grows old new) where
  one : (instance : Inst) (a b : Bool) → marked old (done instance) ≡ a → marked new (done instance) ≡ b → cond b 0 1 ≤ cond a 0 1
  one instance true true was is = omega arith
  one instance true false was is = absurd (false≢true (sym is ∙ grows (done instance) was))
  one instance false true was is = omega arith
  one instance false false was is = omega arith

  pub no_more : (list : List Inst) → left_of new list ≤ left_of old list
  no_more [] = omega arith
  no_more (instance ∷ list) = omega (arith, one instance (marked old (done instance)) (marked new (done instance)) refl refl, no_more list)

  fewer : (instance : Inst) → marked old (done instance) ≡ false → marked new (done instance) ≡ true → (list : List Inst) → IsIn instance list → left_of new list < left_of old list
  fewer instance was is [] none = absurd none
  fewer instance was is (first ∷ list) (inl same) =
      let before : ◌≡◌ {A = ℕ} (cond (marked old (done first)) 0 1) 1 = ap (λ (b : Bool). cond b 0 1) (subst (λ (i : Inst). marked old (done i) ≡ false) same was) in
      let after : ◌≡◌ {A = ℕ} (cond (marked new (done first)) 0 1) 0 = ap (λ (b : Bool). cond b 0 1) (subst (λ (i : Inst). marked new (done i) ≡ true) same is) in
      omega (arith, before, after, no_more list)
  fewer instance was is (first ∷ list) (inr later) = omega (arith, one first (marked old (done first)) (marked new (done first)) refl refl, fewer instance was is list later)

module _ (told : OneFact) where
  -- an instance that a test finds in the list is in it
  any_is_in : (instance : Inst) (list : List Inst) → list_any (eq_by_cmp inst_cmp instance) list ≡ true → IsIn instance list
  any_is_in instance [] any = absurd (false≢true any)
  any_is_in instance (first ∷ list) any =
      elim (either (eq_by_cmp inst_cmp instance first) (list_any (eq_by_cmp inst_cmp instance) list) any) [
        | inl here ↦ inl (one_name ((told (done instance) (done first)).1 here))
        | inr later ↦ inr (any_is_in instance list later)
      ]
    where
      one_name : done instance ≡ done first → instance ≡ first
      one_name same = cc

  in_is_any : (instance : Inst) (list : List Inst) → IsIn instance list → list_any (eq_by_cmp inst_cmp instance) list ≡ true
  in_is_any instance [] none = absurd none
  in_is_any instance (first ∷ list) (inl same) = ap (λ (b : Bool). b || list_any (eq_by_cmp inst_cmp instance) list) (subst (λ (i : Inst). eq_by_cmp inst_cmp instance i ≡ true) same (told (done instance) (done instance)).0)
  in_is_any instance (first ∷ list) (inr later) = right (eq_by_cmp inst_cmp instance first) (list_any (eq_by_cmp inst_cmp instance) list) (in_is_any instance list later)
    where
      right : (a b : Bool) → b ≡ true → (a || b) ≡ true
      right true b is = refl
      right false b is = is

  -- the done instances are those of the list
  pub done_is_listed : (m : Machine) → IsKept m → (list : List Inst) → AreTheDone m.memory.instances list → (instance : Inst) → facts m (done instance) ≡ true → IsIn instance list
  done_is_listed m kept list are instance is = any_is_in instance list ((are.each instance).1 ((kept.done instance).1 is))

  pub listed_is_done : (m : Machine) → IsKept m → (list : List Inst) → AreTheDone m.memory.instances list → (instance : Inst) → IsIn instance list → facts m (done instance) ≡ true
  listed_is_done m kept list are instance is = (kept.done instance).0 ((are.each instance).0 (in_is_any instance list is))

  pub one_less : (store : Machine) (old new : Marks) → IsKept store → AreTheDone store.memory.instances (all_done store.memory.instances) → ReplaysOne store old new → to_replay store new < to_replay store old
  one_less store old new kept are it =
      fewer old new it.replays.grows it.instance it.replays.before it.replays.after (all_done store.memory.instances) (done_is_listed store kept (all_done store.memory.instances) are it.instance it.of_store)

  -- and after more marks
  pub one_less_then : (store : Machine) (old mid new : Marks) → IsKept store → AreTheDone store.memory.instances (all_done store.memory.instances) → ReplaysOne store old mid → Grows mid new → to_replay store new < to_replay store old
  one_less_then store old mid new kept are it grows = omega (arith, one_less store old mid kept are it, no_more mid new grows (all_done store.memory.instances))
