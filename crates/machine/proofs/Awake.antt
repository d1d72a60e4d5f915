-- Instances that wait for items become ready, although no item comes.
use Rattle.std.proofs.Common.{◌≡◌, ◌∙◌, ap, sym, refl, Bool, true, false, cond, ◌||◌, List, [], ◌∷◌, length, Option, Some, None, is_some}
use Rattle.std.specs.Option.{unwrap_or}
use Rattle.std.specs.FinMap.{get}
use Rattle.terms.specs.declared.name.Addr.{Addr}
use Rattle.terms.specs.declared.name.Inst.{Inst}
use Rattle.terms.specs.declared.producer.Producer.TheVariants.{Env, By}
use Rattle.terms.specs.declared.put.Put.{Put}
use Rattle.terms.specs.declared.put.Put.TheVariants as put
use Rattle.terms.specs.Facts.{Fact, tag, item, done, bad}
use Rattle.maps.specs.Numbered.{Numbered, room_at}
use Rattle.graph.specs.Graph.{Graph}
use Rattle.graph.specs.Fits.{addresses}
use Rattle.items.specs.Held.{Held, place, waiters_at, without_waiters}
use Rattle.instances.specs.declared.state.State.{State}
use Rattle.instances.specs.declared.state.State.TheVariants.{Ready, Running, Waiting, Done}
use Rattle.instances.specs.Known.{state_at}
use Rattle.machine.specs.declared.memory.Memory.{Memory}
use Rattle.holdings.specs.ImageLaws.{is_fault, is_item}
use Rattle.machine.specs.Memory.{is_done, facts_of, environment_of, waits_at, AreListed, IsOf}
use Rattle.machine.specs.Waking.{Awakens, Wakes, waits_among, woken_among}
use Rattle.machine.specs.Machine.{WakesFor}
use Rattle.machine.proofs.Coming.{or_false, woken_listed, woken_once, woken_states}
use Rattle.machine.proofs.Worked.{same_is_of}

ready_anyway : (b : Bool) → cond b (Some Ready) (Some Ready) ≡ Some Ready
ready_anyway true = refl
ready_anyway false = refl

-- one that waits after others were woken waited there before
waited : (list : List Addr) (state : Option State) (c : Addr) → woken_among list state ≡ Some (Waiting c) → state ≡ Some (Waiting c)
waited list state c is = at (waits_among list state) refl
  where
    not_ready : Some Ready ≡ Some (Waiting c) → ⊥
    not_ready same = cc

    at : (b : Bool) → waits_among list state ≡ b → state ≡ Some (Waiting c)
    at true waits = absurd (not_ready (sym (ap (λ b. cond b (Some Ready) state) waits) ∙ is))
    at false waits = sym (ap (λ b. cond b (Some Ready) state) waits) ∙ is

none_waits : (list : List Addr) → waits_among list (Some Done) ≡ false
none_waits [] = refl
none_waits (address ∷ list) = none_waits list

-- no instance is done by it, and none ceases to be
done_stays : (list : List Addr) (state : Option State) → is_done (woken_among list state) ≡ is_done state
done_stays list None = at (waits_among list None)
  where
    at : (b : Bool) → is_done (cond b (Some Ready) None) ≡ false
    at true = refl
    at false = refl
done_stays list (Some Ready) = ap is_done (ready_anyway (waits_among list (Some Ready)))
done_stays list (Some Running) = at (waits_among list (Some Running))
  where
    at : (b : Bool) → is_done (cond b (Some Ready) (Some Running)) ≡ false
    at true = refl
    at false = refl
done_stays list (Some (Waiting address)) = at (waits_among list (Some (Waiting address)))
  where
    at : (b : Bool) → is_done (cond b (Some Ready) (Some (Waiting address))) ≡ false
    at true = refl
    at false = refl
done_stays list (Some Done) = ap (λ b. is_done (cond b (Some Ready) (Some Done))) (none_waits list)

-- first those at one address, and then those at the others
merged : (a : Addr) (list : List Addr) (state : Option State) → woken_among list (woken_among (a ∷ []) state) ≡ woken_among (a ∷ list) state
merged a list state = at (waits_at a state) refl
  where
    at : (b : Bool) → waits_at a state ≡ b → woken_among list (woken_among (a ∷ []) state) ≡ woken_among (a ∷ list) state
    at true is =
        ap (λ b. woken_among list (cond (b || false) (Some Ready) state)) is ∙ ready_anyway (waits_among list (Some Ready))
        ∙ sym (ap (λ b. cond (b || waits_among list state) (Some Ready) state) is)
    at false is =
        ap (λ b. woken_among list (cond (b || false) (Some Ready) state)) is ∙ sym (ap (λ b. cond (b || waits_among list state) (Some Ready) state) is)

pub awakens_none : (m : Memory) → AreListed m → Awakens m m []
awakens_none m listed = record {
  states = λ i. refl;
  running = refl;
  tags = refl;
  prescribers = λ n. refl;
  room = λ c. refl;
  items = refl;
  fault = refl;
  listed = listed;
}

awakens_more : (old mid new : Memory) (a : Addr) (list : List Addr) → Awakens old mid (a ∷ []) → Awakens mid new list → Awakens old new (a ∷ list)
awakens_more old mid new a list one more = record {
  states = λ i. more.states i ∙ ap (woken_among list) (one.states i) ∙ merged a list (state_at old.instances i);
  running = more.running ∙ one.running;
  tags = more.tags ∙ one.tags;
  prescribers = λ n. more.prescribers n ∙ one.prescribers n;
  room = λ c. more.room c ∙ one.room c;
  items = more.items ∙ one.items;
  fault = more.fault ∙ one.fault;
  listed = more.listed;
}

-- first those that wait for the item of one put, and then those that wait for the items of the others
pub awakens_put : (old mid new : Memory) (one : Put) (puts : List Put) → Awakens old mid (addresses (one ∷ [])) → Awakens mid new (addresses puts) → Awakens old new (addresses (one ∷ puts))
awakens_put old mid new (put.Item a value) puts first more = awakens_more old mid new a (addresses puts) first more
awakens_put old mid new (put.Tag name) puts first more = record {
  states = λ i. more.states i ∙ ap (woken_among (addresses puts)) (first.states i);
  running = more.running ∙ first.running;
  tags = more.tags ∙ first.tags;
  prescribers = λ n. more.prescribers n ∙ first.prescribers n;
  room = λ c. more.room c ∙ first.room c;
  items = more.items ∙ first.items;
  fault = more.fault ∙ first.fault;
  listed = more.listed;
}

-- those that wait at one address are woken
pub awakens_one : (old new : Memory) (a : Addr) → AreListed old → new.items ≡ without_waiters old.items a → Wakes old.instances new.instances (waiters_at old.items a) → new.fault ≡ old.fault
    → Awakens old new (a ∷ [])
awakens_one old new a listed items wakes fault = record {
  states = states;
  running = wakes.running;
  tags = wakes.tags;
  prescribers = wakes.prescribers;
  room = wakes.room;
  items = same;
  fault = fault;
  listed = record {
    listed = woken_listed old new a listed taken wakes;
    once = woken_once old new a listed taken wakes;
    absent = λ i c is. ap (λ (items : Numbered _). get items.items (place c)) same ∙ listed.absent i c (waited (a ∷ []) (state_at old.instances i) c (sym (states i) ∙ is));
  };
}
  where
    same : new.items.items ≡ old.items.items
    same = ap (λ (h : Held). h.items) items

    taken : new.items.waiting ≡ (without_waiters old.items a).waiting
    taken = ap (λ (h : Held). h.waiting) items

    states : (i : Inst) → state_at new.instances i ≡ woken_among (a ∷ []) (state_at old.instances i)
    states i =
        woken_states old new a listed taken wakes i
        ∙ ap (λ b. cond b (Some Ready) (state_at old.instances i)) (sym (or_false (waits_at a (state_at old.instances i))))

-- ---- a machine

module _ (old new : Memory) (list : List Addr) (wakes : Awakens old new list) where
  facts_stay : (fact : Fact) → facts_of new fact ≡ facts_of old fact
  facts_stay (tag name) = ap (λ (t : Numbered Bool). is_some (get t.items (name.collection.0, name.key))) wakes.tags
  facts_stay (item b value by) = ap (λ (t : Numbered _). is_item (get t.items (place b)) value by) wakes.items
  facts_stay (done i) = ap is_done (wakes.states i) ∙ done_stays list (state_at old.instances i)
  facts_stay (bad i kind) = ap (λ f. is_fault f i kind) wakes.fault

  environment_stays : (fact : Fact) → environment_of new fact ≡ environment_of old fact
  environment_stays (tag name) = ap (λ (t : Numbered Bool). unwrap_or (get t.items (name.collection.0, name.key)) false) wakes.tags
  environment_stays (item b value Env) = ap (λ (t : Numbered _). is_item (get t.items (place b)) value Env) wakes.items
  environment_stays (item b value (By i number)) = refl
  environment_stays (done i) = refl
  environment_stays (bad i kind) = refl

  pub woken_is_of : (g : Graph) → IsOf g old → IsOf g new
  woken_is_of g is =
      same_is_of g old new is facts_stay environment_stays (ap (λ (t : Numbered _). length t.room) wakes.items) (ap (λ (t : Numbered Bool). length t.room) wakes.tags) wakes.prescribers
      (λ i a waits. is.needs i a (waited list (state_at old.instances i) a (sym (wakes.states i) ∙ waits))) wakes.listed

  module _ (g : Graph) where
    pub wakes_for : (puts : List Put) → list ≡ addresses puts → WakesFor (record { graph = g; memory = old }) (record { graph = g; memory = new }) puts
    wakes_for puts is = record {
      graph = refl;
      facts = facts_stay;
      environment = environment_stays;
      states = λ i. wakes.states i ∙ ap (λ list. woken_among list (state_at old.instances i)) is;
      running = wakes.running;
      item_room = λ c. ap (λ (t : Numbered _). room_at t c.0) wakes.items;
      tag_room = wakes.room;
    }
