-- What a tag does to the facts of a store.
use Rattle.std.proofs.Common.{◌≡◌, ◌∙◌, ap, sym, refl, subst, inl, inr, ℕ, ◌+◌, ◌==◌, ◌≤◌, Bool, true, false, if◌then◌else◌, nat_eq, cond, ◌||◌, [], ◌∷◌, length, Option, Some, None, is_some, arith}
use Rattle.std.proofs.lemmas.Bool.{false≢true}
use Rattle.std.specs.Option.{unwrap_or}
use Rattle.std.specs.Ordering.{is_eq}
use Rattle.std.specs.Cmp.{Equal-is, eq_by_cmp_equiv}
use Rattle.std.specs.FinMap.{get, get-insert}
use Rattle.terms.specs.declared.name.Addr.{Addr}
use Rattle.terms.specs.declared.name.Tag.{Tag}
use Rattle.terms.specs.declared.name.Inst.{Inst}
use Rattle.terms.specs.declared.name.TagCollection.{TagCollection}
use Rattle.terms.specs.declared.producer.Producer.{Producer}
use Rattle.terms.specs.declared.producer.Producer.TheVariants.{Env, By}
use Rattle.terms.specs.declared.put.Put.TheVariants as put
use Rattle.terms.specs.Name.{tag_cmp}
use Rattle.terms.specs.Facts.{Fact, tag, item, done, bad}
use Rattle.terms.specs.Sets.{with_facts}
use Rattle.maps.specs.PlaceOrder.{places_total, same_places}
use Rattle.items.specs.Held.{Held, item_at, waiters_at}
use Rattle.items.specs.Held.{room_for as items_for}
use Rattle.items.specs.Once.{IsOnceEach, is_one_of}
use Rattle.instances.specs.declared.state.State.{State}
use Rattle.instances.specs.declared.state.State.TheVariants.{Ready, Running, Waiting, Done}
use Rattle.instances.specs.Known.{Prescribes, mark_of, state_at, tag_place, is_prescribed_by, room_for}
use Rattle.machine.specs.declared.memory.Memory.{Memory}
use Rattle.holdings.specs.ImageLaws.{is_fault, is_item}
use Rattle.machine.specs.Memory.{is_done, facts_of, environment_of, waits_at, AreListed, MovesOn}
use Rattle.machine.specs.Coming.{Grows, IsNewTo, given_by}
use Rattle.machine.proofs.Coming.{or_false, same_number, itself_number, still_waits}

-- whether two tags are equal
abbrev same_tag : Tag → Tag → Bool
same_tag a b = is_eq (tag_cmp a b)

turned : (a b : Tag) → same_tag a b ≡ same_tag b a
turned a b = (eq_by_cmp_equiv places_total).symm (tag_place a) (tag_place b)

one_tag : (a b : Tag) → same_tag a b ≡ true → a ≡ b
one_tag a b is =
    let places = same_places (tag_place a) (tag_place b) ((Equal-is (tag_cmp a b)).0 is) in
    λ i. record { collection = record { 0 = (places i).0 }; key = (places i).1 }

-- if the tag is there, putting it again states nothing new
there_already : (X : Tag → Bool) (name other : Tag) → X name ≡ true → X other ≡ (X other || (same_tag name other || false))
there_already X name other there = at (same_tag name other) refl
  where
    at : (b : Bool) → same_tag name other ≡ b → X other ≡ (X other || (same_tag name other || false))
    at true is = is_there ∙ sym (ap (λ b. b || (same_tag name other || false)) is_there)
      where
        is_there : X other ≡ true
        is_there = ap X (sym (one_tag name other is)) ∙ there
    at false is = sym (ap (λ b. X other || (b || false)) is ∙ or_false (X other))

pub unmoved : (m : Memory) (state : Option State) → ((b : Addr) → state ≡ Some (Waiting b) → item_at m.items b ≡ None) → MovesOn m state state
unmoved m None absent = inl refl
unmoved m (Some Ready) absent = refl
unmoved m (Some Running) absent = refl
unmoved m (Some Done) absent = refl
unmoved m (Some (Waiting other)) absent = inl (absent other refl, refl)

pub no_mark : (mark : Option Bool) → is_some mark ≡ false → mark ≡ None
no_mark None is = refl
no_mark (Some mark) is = absurd (false≢true (sym is))

pub tag_stays : (m : Memory) (name : Tag) → AreListed m → is_some (mark_of m.instances name) ≡ true → Grows m m (tag name ∷ []) [] (put.Tag name ∷ [])
tag_stays m name listed there = record {
  facts = all;
  environment = λ fact. sym (or_false _);
  states = λ i. unmoved m (state_at m.instances i) (λ b. listed.absent i b);
  item_collections = refl;
  tag_collections = refl;
  prescribers = λ n. refl;
  listed = listed;
  item_room = λ c. omega arith;
  tag_room = λ c. omega arith;
}
  where
    all : (fact : Fact) → facts_of m fact ≡ with_facts (facts_of m) (tag name ∷ []) fact
    all (tag other) = there_already (λ n. is_some (mark_of m.instances n)) name other there
    all (item a w q) = sym (or_false _)
    all (done i) = sym (or_false _)
    all (bad i kind) = sym (or_false _)

module _ (old new : Memory) (name : Tag) (mark : Bool) (listed : AreListed old) (absent : mark_of old.instances name ≡ None)
    (prescribed : (i : Inst) → is_prescribed_by old.instances name i ≡ true → is_some (state_at old.instances i) ≡ is_some (mark_of old.instances name))
    (comes : Prescribes old.instances new.instances name mark (λ i. Ready)) (items : new.items ≡ old.items) (fault : new.fault ≡ old.fault) where
  marks : (other : Tag) → mark_of new.instances other ≡ cond (same_tag name other) (Some mark) (mark_of old.instances other)
  marks other =
      ap (λ m. get m (tag_place other)) comes.tags.items ∙ get-insert places_total old.instances.tags.items (tag_place name) mark (tag_place other)
      ∙ ap (λ b. cond b (Some mark) (mark_of old.instances other)) (turned other name)

  -- an instance that the tag prescribes was not there
  not_there : (i : Inst) → is_prescribed_by old.instances name i ≡ true → state_at old.instances i ≡ None
  not_there i is = none (state_at old.instances i) (prescribed i is ∙ ap is_some absent)
    where
      none : (o : Option State) → is_some o ≡ false → o ≡ None
      none None is = refl
      none (Some state) is = absurd (false≢true (sym is))

  -- what holds of the state before, and of a ready one if there was none, holds of the state after
  after : (i : Inst) (P : Option State → Type 0) → P (state_at old.instances i) → (state_at old.instances i ≡ None → P (Some Ready)) → P (state_at new.instances i)
  after i P same fresh = subst P (sym (comes.states i)) (at (is_prescribed_by old.instances name i) refl)
    where
      at : (b : Bool) → is_prescribed_by old.instances name i ≡ b → P (cond (is_prescribed_by old.instances name i) (Some Ready) (state_at old.instances i))
      at true is = subst (λ b. P (cond b (Some Ready) (state_at old.instances i))) (sym is) (fresh (not_there i is))
      at false is = subst (λ b. P (cond b (Some Ready) (state_at old.instances i))) (sym is) same

  facts : (fact : Fact) → facts_of new fact ≡ with_facts (facts_of old) (tag name ∷ []) fact
  facts (tag other) = ap is_some (marks other) ∙ at (same_tag name other) refl
    where
      at : (b : Bool) → same_tag name other ≡ b → is_some (cond (same_tag name other) (Some mark) (mark_of old.instances other)) ≡ (is_some (mark_of old.instances other) || (same_tag name other || false))
      at true is =
          ap (λ b. is_some (cond b (Some mark) (mark_of old.instances other))) is
          ∙ sym (ap (λ b. is_some (mark_of old.instances other) || (b || false)) is ∙ ap (λ (n : Tag). is_some (mark_of old.instances n) || true) (sym (one_tag name other is)) ∙ ap (λ (o : Option Bool). is_some o || true) absent)
      at false is =
          ap (λ b. is_some (cond b (Some mark) (mark_of old.instances other))) is
          ∙ sym (ap (λ b. is_some (mark_of old.instances other) || (b || false)) is ∙ or_false _)
  facts (item a w q) = ap (λ (h : Held). is_item (item_at h a) w q) items ∙ sym (or_false _)
  facts (done i) = after i (λ s. is_done s ≡ (is_done (state_at old.instances i) || false)) (sym (or_false _)) (λ none. sym (ap (λ s. is_done s || false) none))
  facts (bad i kind) = ap (λ f. is_fault f i kind) fault ∙ sym (or_false _)

  given : (producer : Producer) → (producer ≡ Env → mark ≡ true) → ((i : Inst) (n : ℕ) → producer ≡ By i n → mark ≡ false)
      → (fact : Fact) → environment_of new fact ≡ with_facts (environment_of old) (given_by producer (put.Tag name)) fact
  given Env is other_is (tag other) = ap (λ o. unwrap_or o false) (marks other) ∙ at (same_tag name other) refl
    where
      at : (b : Bool) → same_tag name other ≡ b
          → unwrap_or (cond (same_tag name other) (Some mark) (mark_of old.instances other)) false ≡ (unwrap_or (mark_of old.instances other) false || (same_tag name other || false))
      at true it =
          ap (λ b. unwrap_or (cond b (Some mark) (mark_of old.instances other)) false) it ∙ is refl
          ∙ sym (ap (λ b. unwrap_or (mark_of old.instances other) false || (b || false)) it ∙ ap (λ (n : Tag). unwrap_or (mark_of old.instances n) false || true) (sym (one_tag name other it)) ∙ ap (λ (o : Option Bool). unwrap_or o false || true) absent)
      at false it =
          ap (λ b. unwrap_or (cond b (Some mark) (mark_of old.instances other)) false) it
          ∙ sym (ap (λ b. unwrap_or (mark_of old.instances other) false || (b || false)) it ∙ or_false _)
  given (By j m) is other_is (tag other) = ap (λ o. unwrap_or o false) (marks other) ∙ at (same_tag name other) refl
    where
      at : (b : Bool) → same_tag name other ≡ b → unwrap_or (cond (same_tag name other) (Some mark) (mark_of old.instances other)) false ≡ (unwrap_or (mark_of old.instances other) false || false)
      at true it =
          ap (λ b. unwrap_or (cond b (Some mark) (mark_of old.instances other)) false) it ∙ other_is j m refl
          ∙ sym (or_false _ ∙ ap (λ (n : Tag). unwrap_or (mark_of old.instances n) false) (sym (one_tag name other it)) ∙ ap (λ (o : Option Bool). unwrap_or o false) absent)
      at false it = ap (λ b. unwrap_or (cond b (Some mark) (mark_of old.instances other)) false) it ∙ sym (or_false _)
  given Env is other_is (item a w Env) = ap (λ (h : Held). is_item (item_at h a) w Env) items ∙ sym (or_false _)
  given (By j m) is other_is (item a w Env) = ap (λ (h : Held). is_item (item_at h a) w Env) items ∙ sym (or_false _)
  given Env is other_is (item a w (By i n)) = refl
  given (By j m) is other_is (item a w (By i n)) = refl
  given Env is other_is (done i) = refl
  given (By j m) is other_is (done i) = refl
  given Env is other_is (bad i kind) = refl
  given (By j m) is other_is (bad i kind) = refl

  goes : (i : Inst) → MovesOn new (state_at old.instances i) (state_at new.instances i)
  goes i = after i (MovesOn new (state_at old.instances i))
      (unmoved new (state_at old.instances i) (λ b is. ap (λ (h : Held). item_at h b) items ∙ listed.absent i b is))
      (λ none. subst (λ s. MovesOn new s (Some Ready)) (sym none) (inr refl))

  still_listed : AreListed new
  still_listed = record {
    listed = λ i c. ap (λ (h : Held). is_one_of i (waiters_at h c)) items
        ∙ after i (λ s. is_one_of i (waiters_at old.items c) ≡ waits_at c s) (listed.listed i c) (λ none. listed.listed i c ∙ ap (waits_at c) none);
    once = λ c. subst (λ (h : Held). IsOnceEach (waiters_at h c)) (sym items) (listed.once c);
    absent = λ i c is. (still_waits new (state_at old.instances i) (state_at new.instances i) c (goes i) is).1;
  }

  tag_room_of : (c : TagCollection) (t : Bool) → nat_eq name.collection.0 c.0 ≡ t → room_for old.instances c ≤ room_for new.instances c + ((if t then 1 else 0) + 0)
  tag_room_of c true is =
      subst (λ (n : TagCollection). room_for old.instances n ≤ room_for new.instances n + 1) (λ i. record { 0 = same_number name.collection.0 c.0 is i }) (omega (arith, comes.room))
  tag_room_of c false is =
      omega (arith, comes.other_room c (λ one. false≢true (sym is ∙ ap (λ (n : ℕ). name.collection.0 == n) one ∙ itself_number name.collection.0)))

  pub tag_comes : (producer : Producer) → (producer ≡ Env → mark ≡ true) → ((i : Inst) (n : ℕ) → producer ≡ By i n → mark ≡ false) → Grows old new (tag name ∷ []) (given_by producer (put.Tag name)) (put.Tag name ∷ [])
  tag_comes producer is other_is = record {
    facts = facts;
    environment = given producer is other_is;
    states = goes;
    item_collections = ap (λ (h : Held). length h.items.room) items;
    tag_collections = comes.tags.other_room.collections;
    prescribers = comes.prescribers;
    listed = still_listed;
    item_room = λ c. subst (λ (h : Held). items_for old.items c ≤ items_for h c + 0) (sym items) (omega arith);
    tag_room = λ c. tag_room_of c (nat_eq name.collection.0 c.0) refl;
  }

-- a tag that is there may come again from an instance, and never from the environment
pub tag_again : (m : Memory) (name : Tag) (producer : Producer) → AreListed m → IsNewTo m producer (put.Tag name) → is_some (mark_of m.instances name) ≡ true → Grows m m (tag name ∷ []) (given_by producer (put.Tag name)) (put.Tag name ∷ [])
tag_again m name Env listed new there = absurd (false≢true (sym new ∙ there))
tag_again m name (By i n) listed new there = tag_stays m name listed there
