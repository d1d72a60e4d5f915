-- One instance moves into another state.
use Rattle.std.proofs.Common.{◌≡◌, ◌≢◌, ◌∙◌, ap, sym, refl, subst, Bool, true, false, ◌||◌, [], ◌∷◌, Option, Some, None, is_some}
use Rattle.std.proofs.lemmas.Bool.{false≢true}
use Rattle.std.specs.Option.{unwrap_or}
use Rattle.std.specs.FinMap.{IsAntisymmetric, get}
use Rattle.std.specs.Cmp.{IsTotalOrder}
use Rattle.std.specs.Ordering.{is_eq, eq_by_cmp}
use Rattle.terms.specs.declared.name.Addr.{Addr}
use Rattle.terms.specs.declared.name.Inst.{Inst}
use Rattle.terms.specs.declared.name.Tag.{Tag}
use Rattle.terms.specs.declared.producer.Producer.TheVariants.{Env, By}
use Rattle.terms.specs.Name.{inst_cmp}
use Rattle.terms.specs.Same.{same_itself}
use Rattle.terms.specs.Facts.{Fact, tag, item, done, bad}
use Rattle.terms.specs.Sets.{with_facts}
use Rattle.maps.specs.Numbered.{Numbered}
use Rattle.items.specs.Held.{Held, item_at, waiters_at}
use Rattle.items.specs.Once.{IsOnceEach, is_one_of}
use Rattle.instances.specs.declared.state.State.{State}
use Rattle.instances.specs.declared.state.State.TheVariants.{Ready, Running, Waiting, Done}
use Rattle.instances.specs.Known.{MovesOne, mark_of, state_at}
use Rattle.machine.specs.declared.memory.Memory.{Memory}
use Rattle.holdings.specs.ImageLaws.{is_fault, is_item}
use Rattle.machine.specs.Memory.{is_done, facts_of, environment_of, waits_at, AreListed}
use Rattle.machine.proofs.Coming.{or_false}
use Rattle.machine.proofs.Woken.{one_instance, itself}

-- the instance does not wait
abbrev pub IsAwake : State → Type 0
IsAwake state = (address : Addr) → waits_at address (Some state) ≡ false

module _ (total : IsTotalOrder inst_cmp) (tie : IsAntisymmetric inst_cmp) (old new : Memory) (i : Inst) (from to : State)
    (was : state_at old.instances i ≡ Some from) (moves : MovesOne old.instances new.instances i to) where
  -- what holds of its new state, and of the states of the others, holds of all
  pub by_instance : (j : Inst) (P : Option State → Type 0) → (j ≡ i → P (Some to)) → (j ≢ i → P (state_at old.instances j)) → P (state_at new.instances j)
  by_instance j P here elsewhere = at (eq_by_cmp inst_cmp j i) refl
    where
      at : (b : Bool) → eq_by_cmp inst_cmp j i ≡ b → P (state_at new.instances j)
      at true is =
          let one = one_instance total tie j i is in
          subst P (sym (ap (state_at new.instances) one ∙ moves.here)) (here one)
      at false is =
          let other : j ≢ i = λ one. false≢true (sym is ∙ ap (λ (k : Inst). eq_by_cmp inst_cmp k i) one ∙ itself total tie i) in
          subst P (sym (moves.others j other)) (elsewhere other)

  marks : (name : Tag) → mark_of new.instances name ≡ mark_of old.instances name
  marks name = ap (λ (t : Numbered Bool). get t.items (name.collection.0, name.key)) moves.tags

  module _ (items : (a : Addr) → item_at new.items a ≡ item_at old.items a) (fault : new.fault ≡ old.fault) where
    -- no fact changes if the move does not change whether the instance is done
    pub facts_stay : is_done (Some from) ≡ is_done (Some to) → (fact : Fact) → facts_of new fact ≡ facts_of old fact
    facts_stay as_done (tag name) = ap is_some (marks name)
    facts_stay as_done (item a v by) = ap (λ o. is_item o v by) (items a)
    facts_stay as_done (done j) =
        by_instance j (λ s. is_done s ≡ is_done (state_at old.instances j)) (λ one. sym as_done ∙ ap is_done (sym was ∙ ap (state_at old.instances) (sym one))) (λ other. refl)
    facts_stay as_done (bad j kind) = ap (λ f. is_fault f j kind) fault

    pub environment_stays : (fact : Fact) → environment_of new fact ≡ environment_of old fact
    environment_stays (tag name) = ap (λ o. unwrap_or o false) (marks name)
    environment_stays (item a v Env) = ap (λ o. is_item o v Env) (items a)
    environment_stays (item a v (By j n)) = refl
    environment_stays (done j) = refl
    environment_stays (bad j kind) = refl

    -- if it ends, the one fact that is added is that it is done
    pub done_comes : to ≡ Done → (fact : Fact) → facts_of new fact ≡ with_facts (facts_of old) (done i ∷ []) fact
    done_comes ends (tag name) = ap is_some (marks name) ∙ sym (or_false _)
    done_comes ends (item a v by) = ap (λ o. is_item o v by) (items a) ∙ sym (or_false _)
    done_comes ends (done j) = at (eq_by_cmp inst_cmp i j) refl
      where
        at : (b : Bool) → eq_by_cmp inst_cmp i j ≡ b → is_done (state_at new.instances j) ≡ (is_done (state_at old.instances j) || (is_eq (inst_cmp i j) || false))
        at true is =
            ap is_done (ap (state_at new.instances) (sym (one_instance total tie i j is)) ∙ moves.here ∙ ap Some ends)
            ∙ sym (ap (λ b. is_done (state_at old.instances j) || (b || false)) is ∙ or_true (is_done (state_at old.instances j)))
          where
            or_true : (b : Bool) → (b || true) ≡ true
            or_true true = refl
            or_true false = refl
        at false is =
            ap is_done (moves.others j (λ one. false≢true (sym is ∙ ap (eq_by_cmp inst_cmp i) one ∙ itself total tie i)))
            ∙ sym (ap (λ b. is_done (state_at old.instances j) || (b || false)) is ∙ or_false _)
    done_comes ends (bad j kind) = ap (λ f. is_fault f j kind) fault ∙ sym (or_false _)

  -- if it waits neither before nor after, the lists of waiting instances stay right
  pub still_listed : new.items ≡ old.items → IsAwake from → IsAwake to → AreListed old → AreListed new
  still_listed items awake wakes listed = record {
    listed = λ j a. ap (λ (h : Held). is_one_of j (waiters_at h a)) items ∙ by_instance j (λ s. is_one_of j (waiters_at old.items a) ≡ waits_at a s)
        (λ one. listed.listed j a ∙ ap (waits_at a) (ap (state_at old.instances) one ∙ was) ∙ awake a ∙ sym (wakes a)) (λ other. listed.listed j a);
    once = λ a. subst (λ (h : Held). IsOnceEach (waiters_at h a)) (sym items) (listed.once a);
    absent = λ j a is. ap (λ (h : Held). item_at h a) items
        ∙ by_instance j (λ s. s ≡ Some (Waiting a) → item_at old.items a ≡ None) (λ one waits. absurd (awake_waits a waits)) (λ other waits. listed.absent j a waits) is;
  }
    where
      awake_waits : (a : Addr) → Some to ≡ Some (Waiting a) → ⊥
      awake_waits a waits = false≢true (sym (wakes a) ∙ ap (waits_at a) waits ∙ same_itself a)

-- an instance that runs is awake, and so is one that is ready or done
pub running_is_awake : IsAwake Running
running_is_awake address = refl

pub ready_is_awake : IsAwake Ready
ready_is_awake address = refl

pub done_is_awake : IsAwake Done
done_is_awake address = refl
