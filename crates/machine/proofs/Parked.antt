-- A running instance begins to wait, or a ready one runs.
use Rattle.std.proofs.Common.{◌≡◌, ◌≢◌, ◌∙◌, ap, sym, refl, subst, inl, inr, ℕ, ◌<◌, ◌≤◌, Bool, true, false, cond, ◌||◌, [], ◌∷◌, ◌++◌, length, Option, Some, None, IsSome, IfSome, is_some, ℤ, Result, Ok, Err, OnOk, OnErr}
use Rattle.std.proofs.lemmas.Bool.{false≢true, cases_lt}
use Rattle.std.proofs.lemmas.List.Folds.{list_any-append}
use Rattle.std.specs.FinMap.{IsAntisymmetric}
use Rattle.std.specs.Cmp.{IsTotalOrder}
use Rattle.std.specs.Ordering.{eq_by_cmp}
use Rattle.terms.specs.declared.name.Addr.{Addr}
use Rattle.terms.specs.declared.name.Inst.{Inst}
use Rattle.terms.specs.declared.fault.FaultKind.{FaultKind}
use Rattle.terms.specs.declared.producer.Producer.{Producer}
use Rattle.terms.specs.Name.{inst_cmp}
use Rattle.terms.specs.Same.{is_same, same_address}
use Rattle.maps.specs.Numbered.{Numbered}
use Rattle.graph.specs.Graph.{Graph}
use Rattle.items.specs.Held.{Held, item_at, room_for, waiters_at, with_waiter}
use Rattle.items.specs.Once.{IsOnceEach, is_one_of, once_more, waiters_after}
use Rattle.instances.specs.declared.state.State.TheVariants.{Ready, Running, Waiting}
use Rattle.instances.specs.Known.{MovesOne, state_at}
use Rattle.machine.specs.declared.memory.Memory.{Memory}
use Rattle.machine.specs.Legal.{Needs}
use Rattle.holdings.specs.ImageLaws.{is_fault}
use Rattle.machine.specs.Memory.{facts_of, waits_at, AreListed, IsOf}
use Rattle.machine.proofs.Coming.{or_false}
use Rattle.machine.proofs.Woken.{one_instance, itself}
use Rattle.machine.proofs.Moved.{by_instance, facts_stay, environment_stays}
use Rattle.machine.specs.Machine.{Moves}
use Rattle.graph.specs.Fits.{HasNoFault}
use Rattle.machine.proofs.Worked.{moved_is_of, moves_of, same_is_of}

-- what follows from what the outcomes say
pub if_ok : {T E P Q : Type 0} (r : Result T E) → (P → Q) → OnOk r P → OnOk r Q
if_ok (Ok done) follows holds = follows holds
if_ok (Err error) follows holds = tt

pub if_err : {T E P Q : Type 0} (r : Result T E) → (P → Q) → OnErr r P → OnErr r Q
if_err (Ok done) follows holds = tt
if_err (Err error) follows holds = follows holds

pub either : {T E P Q R : Type 0} (r : Result T E) → OnOk r P → OnErr r Q → (P → R) → (Q → R) → R
either (Ok done) ok refused one two = one ok
either (Err error) ok refused one two = two refused

pub no_item : (o : Option (ℤ × Producer)) → is_some o ≡ false → o ≡ None
no_item None is = refl
no_item (Some it) is = absurd (false≢true (sym is))

module _ (total : IsTotalOrder inst_cmp) (tie : IsAntisymmetric inst_cmp) (old new : Memory) (i : Inst) (a : Addr)
    (was : state_at old.instances i ≡ Some Running) (moves : MovesOne old.instances new.instances i (Waiting a)) (items : new.items ≡ with_waiter old.items a i) (fault : new.fault ≡ old.fault)
    (none : item_at old.items a ≡ None) (listed : AreListed old) where
  items_same : (b : Addr) → item_at new.items b ≡ item_at old.items b
  items_same b = ap (λ (h : Held). item_at h b) items

  runs_not : (b : Addr) → waits_at b (state_at old.instances i) ≡ false
  runs_not b = ap (waits_at b) was

  or_true : (b : Bool) → (b || true) ≡ true
  or_true true = refl
  or_true false = refl

  parked_listed : AreListed new
  parked_listed = record {
    listed = λ j b. ap (λ (h : Held). is_one_of j (waiters_at h b)) items ∙ ap (is_one_of j) (waiters_after old.items a i b) ∙ at j b (is_same b a) refl;
    once = λ b. subst (λ (h : Held). IsOnceEach (waiters_at h b)) (sym items) (subst IsOnceEach (sym (waiters_after old.items a i b)) (few b (is_same b a)));
    absent = λ j b is. items_same b ∙ by_instance total tie old new i Running (Waiting a) was moves j (λ s. s ≡ Some (Waiting b) → item_at old.items b ≡ None)
        (λ one waits. ap (item_at old.items) (sym (its_address waits)) ∙ none) (λ other waits. listed.absent j b waits) is;
  }
    where
      its_address : {b : Addr} → Some (Waiting a) ≡ Some (Waiting b) → a ≡ b
      its_address is = cc

      few : (b : Addr) (s : Bool) → IsOnceEach (cond s (waiters_at old.items a ++ i ∷ []) (waiters_at old.items b))
      few b true = once_more total (waiters_at old.items a) i (listed.once a) (listed.listed i a ∙ runs_not a)
      few b false = listed.once b

      at : (j : Inst) (b : Addr) (s : Bool) → is_same b a ≡ s → is_one_of j (cond s (waiters_at old.items a ++ i ∷ []) (waiters_at old.items b)) ≡ waits_at b (state_at new.instances j)
      at j b true is =
          list_any-append (eq_by_cmp inst_cmp j) (waiters_at old.items a) (i ∷ [])
          ∙ by_instance total tie old new i Running (Waiting a) was moves j (λ s. (is_one_of j (waiters_at old.items a) || (eq_by_cmp inst_cmp j i || false)) ≡ waits_at b s)
          (λ one. ap (λ c. is_one_of j (waiters_at old.items a) || (c || false)) (ap (λ (k : Inst). eq_by_cmp inst_cmp k i) one ∙ itself total tie i) ∙ or_true (is_one_of j (waiters_at old.items a)) ∙ sym is)
          (λ other. ap (λ c. is_one_of j (waiters_at old.items a) || (c || false)) (apart j other) ∙ or_false (is_one_of j (waiters_at old.items a)) ∙ listed.listed j a
          ∙ ap (λ (x : Addr). waits_at x (state_at old.instances j)) (sym (same_address b a is)))
        where
          apart : (j : Inst) → j ≢ i → eq_by_cmp inst_cmp j i ≡ false
          apart j other = test (eq_by_cmp inst_cmp j i) refl
            where
              test : (c : Bool) → eq_by_cmp inst_cmp j i ≡ c → c ≡ false
              test true is = absurd (other (one_instance total tie j i is))
              test false is = refl
      at j b false is =
          by_instance total tie old new i Running (Waiting a) was moves j (λ s. is_one_of j (waiters_at old.items b) ≡ waits_at b s)
          (λ one. listed.listed j b ∙ ap (waits_at b) (ap (state_at old.instances) one ∙ was) ∙ sym is)
          (λ other. listed.listed j b)

  pub parked_moves : (g : Graph) → Moves (record { graph = g; memory = old }) (record { graph = g; memory = new }) i (Waiting a)
  parked_moves g = record {
    graph = refl;
    facts = facts_stay total tie old new i Running (Waiting a) was moves items_same fault refl;
    environment = environment_stays total tie old new i Running (Waiting a) was moves items_same fault;
    here = moves.here;
    others = moves.others;
    counts = moves.counts;
    item_room = λ c. ap (λ (h : Held). room_for h c) items;
    tag_room = moves.room;
  }

  pub parked_is_of : (g : Graph) → IsOf g old → Needs g (facts_of old) i a → IsOf g new
  parked_is_of g is needs =
      same_is_of g old new is (facts_stay total tie old new i Running (Waiting a) was moves items_same fault refl) (environment_stays total tie old new i Running (Waiting a) was moves items_same fault)
      (ap (λ (h : Held). length h.items.room) items) (ap (λ (t : Numbered Bool). length t.room) moves.tags) moves.prescribers
      (λ j b. by_instance total tie old new i Running (Waiting a) was moves j (λ s. s ≡ Some (Waiting b) → Needs g (facts_of old) j b)
      (λ one waits. subst (λ (x : Addr). Needs g (facts_of old) j x) (its_address waits) (subst (λ (k : Inst). Needs g (facts_of old) k a) (sym one) needs)) (λ other waits. is.needs j b waits))
      parked_listed
    where
      its_address : {b : Addr} → Some (Waiting a) ≡ Some (Waiting b) → a ≡ b
      its_address is = cc

-- after a claim a store still holds what a store of the graph may hold
pub claimed_is_of : (total : IsTotalOrder inst_cmp) (tie : IsAntisymmetric inst_cmp) (g : Graph) (old new : Memory) (result : Option Inst) → new.items ≡ old.items → new.fault ≡ old.fault → (result ≡ None → new.instances ≡ old.instances)
    → IfSome result (λ task. (state_at old.instances task ≡ Some Ready) × MovesOne old.instances new.instances task Running) → IsOf g old → IsOf g new
claimed_is_of total tie g old new (Some task) items fault none claimed is = moved_is_of total tie old new task Ready Running claimed.0 claimed.1 items fault g is refl (λ a. refl) (λ a. refl)
claimed_is_of total tie g old new None items fault none claimed is =
    subst (IsOf g) (sym same) is
  where
    same : new ≡ old
    same j = record { items = items j; instances = none refl j; fault = fault j }

-- a claim that gives nothing changes nothing: its number was not below that of the ready instances
pub none_below : {P : Type 0} (ready at : ℕ) (result : Option Inst) → (at < ready → IsSome result) → (ready ≤ at → (result ≡ None) × P) → result ≡ None → P
none_below ready at result some none is = elim (cases_lt at ready) [ inl less ↦ absurd (false≢true (sym (ap is_some is) ∙ some less)) | inr more ↦ (none more).1 ]

pub without_fault : (fault : Option (Inst × FaultKind)) → is_some fault ≡ false → (i : Inst) (kind : FaultKind) → is_fault fault i kind ≡ false
without_fault None is i kind = refl
without_fault (Some there) is i kind = absurd (false≢true (sym is))

-- what the result of a claim says
pub claim_tells : (total : IsTotalOrder inst_cmp) (tie : IsAntisymmetric inst_cmp) (g : Graph) (old new : Memory) (result : Option Inst) → new.items ≡ old.items → new.fault ≡ old.fault → HasNoFault (facts_of old)
    → IfSome result (λ task. (state_at old.instances task ≡ Some Ready) × MovesOne old.instances new.instances task Running)
    → IfSome result (λ task. HasNoFault (facts_of old) × (state_at old.instances task ≡ Some Ready) × Moves (record { graph = g; memory = old }) (record { graph = g; memory = new }) task Running)
claim_tells total tie g old new None items fault working claimed = tt
claim_tells total tie g old new (Some task) items fault working claimed =
    (working, claimed.0, moves_of total tie old new task Ready Running claimed.0 claimed.1 items fault g refl)
