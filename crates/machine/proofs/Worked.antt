-- What a store holds after a change that adds no fact, or that ends an instance.
use Rattle.std.proofs.Common.{◌≡◌, ◌∙◌, ap, sym, refl, subst, ℕ, Bool, false, ◌||◌, List, [], ◌∷◌, length, Option, Some, None, is_some}
use Rattle.std.proofs.lemmas.Bool.{false≢true}
use Rattle.std.specs.FinMap.{IsAntisymmetric}
use Rattle.std.specs.Cmp.{IsTotalOrder}
use Rattle.std.specs.Option.{unwrap_or}
use Rattle.terms.specs.declared.name.Addr.{Addr}
use Rattle.terms.specs.declared.name.Inst.{Inst}
use Rattle.terms.specs.declared.fault.FaultKind.{FaultKind}
use Rattle.terms.specs.declared.put.Put.{Put}
use Rattle.terms.specs.declared.event.Event.{Event}
use Rattle.terms.specs.declared.event.Event.TheVariants as event
use Rattle.terms.specs.declared.producer.Producer.TheVariants.{Env, By}
use Rattle.terms.specs.Same.{same_itself}
use Rattle.terms.specs.Name.{inst_cmp}
use Rattle.terms.specs.Facts.{Fact, tag, item, done, bad, put_facts, event_facts, environment_facts}
use Rattle.terms.specs.Sets.{Facts, with_facts, is_fact, among, OneFact}
use Rattle.maps.specs.Numbered.{Numbered}
use Rattle.graph.specs.Graph.{Graph}
use Rattle.graph.specs.Fits.{FitsState, HasNoFault}
use Rattle.items.specs.Held.{Held, item_at, room_for}
use Rattle.instances.specs.declared.state.State.{State}
use Rattle.instances.specs.declared.state.State.TheVariants.{Ready, Running, Waiting, Done}
use Rattle.instances.specs.Known.{Known, MovesOne, mark_of, state_at, prescriber_at}
use Rattle.machine.specs.declared.memory.Memory.{Memory}
use Rattle.machine.specs.Legal.{Needs}
use Rattle.holdings.specs.ImageLaws.{is_fault, is_item}
use Rattle.machine.specs.Memory.{is_done, waits_at, facts_of, environment_of, AreListed, IsOf, MovesOn, Comes}
use Rattle.machine.specs.Coming.{Grows}
use Rattle.machine.specs.Machine.{Moves}
use Rattle.machine.proofs.Coming.{or_false, still_waits}
use Rattle.machine.proofs.Growing.{either_way}
use Rattle.machine.proofs.Tagging.{unmoved}
use Rattle.machine.proofs.Moved.{IsAwake, by_instance, facts_stay, environment_stays, done_comes, still_listed}

-- if the facts of an event are added, the event comes
pub comes_of : (old new : Memory) (event : Event) (puts : List Put) → Grows old new (event_facts event) (environment_facts event) puts → Comes old new event
comes_of old new event puts grows = record {
  facts = grows.facts;
  environment = grows.environment;
  waited = λ i a is. (still_waits new (state_at old.instances i) (state_at new.instances i) a (grows.states i) is).0;
  item_collections = grows.item_collections;
  tag_collections = grows.tag_collections;
  prescribers = grows.prescribers;
  listed = grows.listed;
}

-- if no fact changes
pub same_is_of : (g : Graph) (old new : Memory) → IsOf g old
    → ((fact : Fact) → facts_of new fact ≡ facts_of old fact)
    → ((fact : Fact) → environment_of new fact ≡ environment_of old fact)
    → length new.items.items.room ≡ length old.items.items.room
    → length new.instances.tags.room ≡ length old.instances.tags.room
    → ((number : ℕ) → prescriber_at new.instances number ≡ prescriber_at old.instances number)
    → ((i : Inst) (a : Addr) → state_at new.instances i ≡ Some (Waiting a) → Needs g (facts_of old) i a)
    → AreListed new → IsOf g new
same_is_of g old new is facts environment item_rooms tag_rooms prescribers needs listed = record {
  graph = is.graph;
  fits = subst (λ (X : Facts). FitsState g X (facts_of new)) (λ i fact. sym (environment fact) i) (subst (FitsState g (environment_of old)) (λ i fact. sym (facts fact) i) is.fits);
  item_collections = item_rooms ∙ is.item_collections;
  tag_collections = tag_rooms ∙ is.tag_collections;
  prescribers = λ n. prescribers n ∙ is.prescribers n;
  needs = λ i a waits. subst (λ (X : Facts). Needs g X i a) (λ j fact. sym (facts fact) j) (needs i a waits);
  listed = listed;
  numbered = λ a v i n there. is.numbered a v i n (sym (facts (item a v (By i n))) ∙ there);
}

module _ (total : IsTotalOrder inst_cmp) (tie : IsAntisymmetric inst_cmp) (old new : Memory) (i : Inst) (from to : State)
    (was : state_at old.instances i ≡ Some from) (moves : MovesOne old.instances new.instances i to) (items : new.items ≡ old.items) (fault : new.fault ≡ old.fault) where
  same_items : (a : Addr) → item_at new.items a ≡ item_at old.items a
  same_items a = ap (λ (h : Held). item_at h a) items

  pub facts_same : is_done (Some from) ≡ is_done (Some to) → (fact : Fact) → facts_of new fact ≡ facts_of old fact
  facts_same as_done = facts_stay total tie old new i from to was moves same_items fault as_done

  pub environment_same : (fact : Fact) → environment_of new fact ≡ environment_of old fact
  environment_same = environment_stays total tie old new i from to was moves same_items fault

  -- if the instance does not begin to wait, no instance begins to wait
  waited : IsAwake to → (j : Inst) (a : Addr) → state_at new.instances j ≡ Some (Waiting a) → state_at old.instances j ≡ Some (Waiting a)
  waited awake j a is =
      by_instance total tie old new i from to was moves j (λ s. s ≡ Some (Waiting a) → state_at old.instances j ≡ Some (Waiting a))
      (λ one waits. absurd (awake_waits waits)) (λ other waits. waits) is
    where
      awake_waits : Some to ≡ Some (Waiting a) → ⊥
      awake_waits waits = false≢true (sym (awake a) ∙ ap (waits_at a) waits ∙ same_itself a)

  -- an instance that runs is given back, or a ready one runs
  pub moved_is_of : (g : Graph) → IsOf g old → is_done (Some from) ≡ is_done (Some to) → IsAwake from → IsAwake to → IsOf g new
  moved_is_of g is as_done awake wakes =
      same_is_of g old new is (facts_same as_done) environment_same (ap (λ (h : Held). length h.items.room) items) (ap (λ (t : Numbered Bool). length t.room) moves.tags) moves.prescribers
      (λ j a waits. is.needs j a (waited wakes j a waits)) (still_listed total tie old new i from to was moves items awake wakes is.listed)

  pub moves_of : (g : Graph) → is_done (Some from) ≡ is_done (Some to) → Moves (record { graph = g; memory = old }) (record { graph = g; memory = new }) i to
  moves_of g as_done = record {
    graph = refl;
    facts = facts_same as_done;
    environment = environment_same;
    here = moves.here;
    others = moves.others;
    counts = moves.counts;
    item_room = λ c. ap (λ (h : Held). room_for h c) items;
    tag_room = moves.room;
  }

module _ (total : IsTotalOrder inst_cmp) (tie : IsAntisymmetric inst_cmp) (old mid new : Memory) (i : Inst)
    (was : state_at old.instances i ≡ Some Running) (moves : MovesOne old.instances mid.instances i Done) (items : mid.items ≡ old.items) (fault : mid.fault ≡ old.fault) (listed : AreListed old) where
  mid_listed : AreListed mid
  mid_listed = still_listed total tie old mid i Running Done was moves items (λ a. refl) (λ a. refl) listed

  pub ended_listed : AreListed mid
  ended_listed = mid_listed

  -- an instance is done, and then its puts are added
  pub end_comes : (puts : List Put) → Grows mid new (put_facts i 0 puts) [] puts → Comes old new (event.Done i puts)
  end_comes puts grows = record {
    facts = λ fact. grows.facts fact ∙ ap (λ b. b || among (put_facts i 0 puts) fact) (done_comes total tie old mid i Running Done was moves (same_items total tie old mid i Running Done was moves items fault) fault refl fact)
        ∙ either_way (facts_of old fact) (is_fact (done i) fact) (among (put_facts i 0 puts) fact);
    environment = λ fact. grows.environment fact ∙ ap (λ b. b || false) (environment_same total tie old mid i Running Done was moves items fault fact);
    waited = λ j a is. waited total tie old mid i Running Done was moves items fault (λ a. refl) j a (still_waits new (state_at mid.instances j) (state_at new.instances j) a (grows.states j) is).0;
    item_collections = grows.item_collections ∙ ap (λ (h : Held). length h.items.room) items;
    tag_collections = grows.tag_collections ∙ ap (λ (t : Numbered Bool). length t.room) moves.tags;
    prescribers = λ n. grows.prescribers n ∙ moves.prescribers n;
    listed = grows.listed;
  }

-- ---- faults

module _ (told : OneFact) where
  pub no_fault_there : (fault : Option (Inst × FaultKind)) → ((i : Inst) (kind : FaultKind) → is_fault fault i kind ≡ false) → fault ≡ None
  no_fault_there None none = refl
  no_fault_there (Some there) none = absurd (false≢true (sym (none there.0 there.1) ∙ (told (bad there.0 there.1) (bad there.0 there.1)).0))

  -- in a store without a fault, an instance that runs comes to be at fault, and is given back
  pub fault_comes : (old mid new : Memory) (i : Inst) (kind : FaultKind) → HasNoFault (facts_of old)
      → ((fact : Fact) → facts_of mid fact ≡ facts_of old fact) → ((fact : Fact) → environment_of mid fact ≡ environment_of old fact)
      → new.items ≡ mid.items → new.instances ≡ mid.instances → mid.fault ≡ old.fault → new.fault ≡ Some (i, kind)
      → (fact : Fact) → (facts_of new fact ≡ with_facts (facts_of old) (bad i kind ∷ []) fact) × (environment_of new fact ≡ with_facts (environment_of old) [] fact)
  fault_comes old mid new i kind working facts environment items instances fault stopped fact =
      (its_facts fact, same_environment fact ∙ environment fact ∙ sym (or_false _))
    where
      none : old.fault ≡ None
      none = no_fault_there old.fault (λ j k. working j k)

      its_facts : (fact : Fact) → facts_of new fact ≡ (facts_of old fact || (is_fact (bad i kind) fact || false))
      its_facts (tag name) = ap (λ (k : Known). is_some (mark_of k name)) instances ∙ facts (tag name) ∙ sym (or_false _)
      its_facts (item a v by) = ap (λ (h : Held). is_item (item_at h a) v by) items ∙ facts (item a v by) ∙ sym (or_false _)
      its_facts (done j) = ap (λ (k : Known). is_done (state_at k j)) instances ∙ facts (done j) ∙ sym (or_false _)
      its_facts (bad j k) = ap (λ f. is_fault f j k) stopped ∙ sym (ap (λ f. is_fault f j k || (is_fact (bad i kind) (bad j k) || false)) none ∙ or_false _)

      same_environment : (fact : Fact) → environment_of new fact ≡ environment_of mid fact
      same_environment (tag name) = ap (λ (k : Known). unwrap_or (mark_of k name) false) instances
      same_environment (item a v Env) = ap (λ (h : Held). is_item (item_at h a) v Env) items
      same_environment (item a v (By j n)) = refl
      same_environment (done j) = refl
      same_environment (bad j k) = refl

  pub stop_comes : (total : IsTotalOrder inst_cmp) (tie : IsAntisymmetric inst_cmp) (old new : Memory) (i : Inst) (kind : FaultKind) (was : state_at old.instances i ≡ Some Running)
      (moves : MovesOne old.instances new.instances i Ready) (items : new.items ≡ old.items) → new.fault ≡ Some (i, kind) → HasNoFault (facts_of old) → AreListed old → Comes old new (event.Stopped i kind)
  stop_comes total tie old new i kind was moves items stopped working listed = record {
    facts = λ fact. (its fact).0;
    environment = λ fact. (its fact).1;
    waited = λ j a is. waited total tie old mid i Running Ready was moves items refl (λ b. refl) j a is;
    item_collections = ap (λ (h : Held). length h.items.room) items;
    tag_collections = ap (λ (t : Numbered Bool). length t.room) moves.tags;
    prescribers = moves.prescribers;
    listed = record { listed = mid_listed.listed; once = mid_listed.once; absent = mid_listed.absent };
  }
    where
      mid : Memory
      mid = record { items = new.items; instances = new.instances; fault = old.fault }

      mid_listed : AreListed mid
      mid_listed = still_listed total tie old mid i Running Ready was moves items (λ a. refl) (λ a. refl) listed

      its : (fact : Fact) → (facts_of new fact ≡ with_facts (facts_of old) (bad i kind ∷ []) fact) × (environment_of new fact ≡ with_facts (environment_of old) [] fact)
      its = fault_comes old mid new i kind working (facts_same total tie old mid i Running Ready was moves items refl refl) (environment_same total tie old mid i Running Ready was moves items refl) refl refl refl stopped

-- an instance whose state stays goes on
pub stays_on : (old new : Memory) → AreListed old → new.items ≡ old.items → (j : Inst) → state_at new.instances j ≡ state_at old.instances j → MovesOn new (state_at old.instances j) (state_at new.instances j)
stays_on old new listed items j same =
    subst (MovesOn new (state_at old.instances j)) (sym same) (unmoved new (state_at old.instances j) (λ a is. ap (λ (h : Held). item_at h a) items ∙ listed.absent j a is))
