-- What one item, or one tag, does to the facts of a store.
use Rattle.std.proofs.Common.{◌≡◌, ◌⊎◌, ◌∙◌, ap, sym, refl, subst, inl, inr, ℕ, ℤ, ◌+◌, ◌==◌, ◌<◌, ◌≤◌, Bool, true, false, if◌then◌else◌, nat_eq, cond, ◌&&◌, ◌||◌, List, [], ◌∷◌, length, Option, Some, None, IsSome, is_some, arith}
use Rattle.std.proofs.lemmas.Bool.{false≢true}
use Rattle.std.specs.Cmp.{unsigned_Decides}
use Rattle.std.specs.Option.{unwrap_or}
use Rattle.std.specs.Ordering.{int_eq}
use Rattle.std.specs.FinMap.{get, remove, get-insert, get-remove}
use Rattle.terms.specs.declared.name.Addr.{Addr}
use Rattle.terms.specs.declared.name.Tag.{Tag}
use Rattle.terms.specs.declared.name.ItemCollection.{ItemCollection}
use Rattle.terms.specs.declared.name.Inst.{Inst}
use Rattle.terms.specs.declared.producer.Producer.{Producer}
use Rattle.terms.specs.declared.producer.Producer.TheVariants.{Env, By}
use Rattle.terms.specs.declared.put.Put.TheVariants as put
use Rattle.terms.specs.Same.{is_same, same_itself, same_address}
use Rattle.terms.specs.Facts.{Fact, tag, item, done, bad}
use Rattle.terms.specs.Sets.{with_facts, is_fact, OneFact}
use Rattle.maps.specs.Numbered.{Numbered, AddsAt, room_at}
use Rattle.maps.specs.PlaceOrder.{places_total}
use Rattle.graph.specs.Fits.{IsAbsent}
use Rattle.items.specs.Held.{Held, place, item_at, waiters_at, room_for}
use Rattle.items.specs.Once.{IsOnceEach, is_one_of}
use Rattle.instances.specs.declared.state.State.{State}
use Rattle.instances.specs.declared.state.State.TheVariants.{Ready, Running, Waiting, Done}
use Rattle.instances.specs.Known.{mark_of, state_at}
use Rattle.machine.specs.declared.memory.Memory.{Memory}
use Rattle.holdings.specs.ImageLaws.{is_fault, is_item}
use Rattle.machine.specs.Memory.{is_done, facts_of, environment_of, waits_at, AreListed, MovesOn}
use Rattle.machine.specs.Waking.{Wakes}
use Rattle.machine.specs.Coming.{Grows, given_by}

and_right : (a b : Bool) → (a && b) ≡ true → b ≡ true
and_right true b both = both
and_right false b both = absurd (false≢true both)

and_both : (a b : Bool) → a ≡ true → b ≡ true → (a && b) ≡ true
and_both true b one two = two
and_both false b one two = one

pub or_false : (b : Bool) → (b || false) ≡ b
or_false true = refl
or_false false = refl

pub same_number : (m n : ℕ) → (m == n) ≡ true → m ≡ n
same_number m n is = (unsigned_Decides m n).0 is

pub itself_number : (n : ℕ) → (n == n) ≡ true
itself_number n = (unsigned_Decides n n).1 refl

same_back : (a b : Addr) → is_same b a ≡ false → is_same a b ≡ false
same_back a b apart = at (is_same a b) refl
  where
    at : (s : Bool) → is_same a b ≡ s → s ≡ false
    at true is = absurd (false≢true (sym apart ∙ ap (is_same b) (same_address a b is) ∙ same_itself b))
    at false is = refl

-- ---- items

module _ (told : OneFact) where
  pub is_itself : (address : Addr) (value : ℤ) (by : Producer) → is_item (Some (value, by)) value by ≡ true
  is_itself address value by = and_right (is_same address address) (is_item (Some (value, by)) value by) (told (item address value by) (item address value by)).0

  -- an item that passes the test is there
  pub the_item : (address : Addr) (o : Option (ℤ × Producer)) (value : ℤ) (by : Producer) → is_item o value by ≡ true → o ≡ Some (value, by)
  the_item address None value by is = absurd (false≢true is)
  the_item address (Some there) value by is =
      same ((told (item address there.0 there.1) (item address value by)).1 (and_both (is_same address address) (is_item (Some there) value by) (same_itself address) is))
    where
      value_is : (w : ℤ) (q : Producer) → item address w q ≡ item address value by → w ≡ value
      value_is w q is = cc

      by_is : (w : ℤ) (q : Producer) → item address w q ≡ item address value by → q ≡ by
      by_is w q is = cc

      same : item address there.0 there.1 ≡ item address value by → Some there ≡ Some (value, by)
      same is i = Some (value_is there.0 there.1 is i, by_is there.0 there.1 is i)

  -- an item that is there passes the test
  pub item_is_there : (address : Addr) (o : Option (ℤ × Producer)) (value : ℤ) (by : Producer) → o ≡ Some (value, by) → is_item o value by ≡ true
  item_is_there address o value by is = ap (λ (p : Option (ℤ × Producer)). is_item p value by) is ∙ is_itself address value by

  -- if no item passes the test, none is there
  pub none_there : (address : Addr) (o : Option (ℤ × Producer)) → ((value : ℤ) (by : Producer) → is_item o value by ≡ false) → o ≡ None
  none_there address None absent = refl
  none_there address (Some there) absent = absurd (false≢true (sym (absent there.0 there.1) ∙ is_itself address there.0 there.1))

  -- an item is put where there was none
  pub item_told :
      (a b : Addr) (v w : ℤ) (p q : Producer) (old : Addr → Option (ℤ × Producer)) → old a ≡ None →
      is_item (cond (is_same b a) (Some (v, p)) (old b)) w q ≡ (is_item (old b) w q || is_fact (item a v p) (item b w q))
  item_told a b v w p q old none = at (is_same b a) refl
    where
      it : Bool
      it = is_item (Some (v, p)) w q

      at : (s : Bool) → is_same b a ≡ s → is_item (cond (is_same b a) (Some (v, p)) (old b)) w q ≡ (is_item (old b) w q || (is_same a b && it))
      at true is =
          ap (λ s. is_item (cond s (Some (v, p)) (old b)) w q) is
          ∙ sym (ap (λ (o : Option (ℤ × Producer)). is_item o w q || (is_same a b && it)) (ap old (same_address b a is) ∙ none) ∙ ap (λ s. s && it) (ap (is_same a) (same_address b a is) ∙ same_itself a))
      at false is =
          ap (λ s. is_item (cond s (Some (v, p)) (old b)) w q) is
          ∙ sym (ap (λ s. is_item (old b) w q || (s && it)) (same_back a b is) ∙ or_false (is_item (old b) w q))

-- what is at an address after a put
pub put_at : (old new : Held) (address : Addr) (value : ℤ) (by : Producer) → AddsAt old.items new.items (place address) (value, by)
    → (b : Addr) → item_at new b ≡ cond (is_same b address) (Some (value, by)) (item_at old b)
put_at old new address value by adds b = ap (λ m. get m (place b)) adds.items ∙ get-insert places_total old.items.items (place address) (value, by) (place b)

-- who waits at an address after a put
pub taken_at : (old new : Held) (address : Addr) → new.waiting ≡ remove old.waiting (place address) → (b : Addr) → waiters_at new b ≡ cond (is_same b address) [] (waiters_at old b)
taken_at old new address taken b =
    ap (λ m. unwrap_or (get m (place b)) []) taken ∙ ap (λ (o : Option (List Inst)). unwrap_or o []) (get-remove places_total old.waiting (place address) (place b)) ∙ at (is_same b address)
  where
    at : (s : Bool) → unwrap_or (cond s None (get old.waiting (place b))) [] ≡ cond s [] (waiters_at old b)
    at true = refl
    at false = refl

-- ---- states

-- an instance that still waits waited before, and the item is not there
pub still_waits : (new : Memory) (from to : Option State) (address : Addr) → MovesOn new from to → to ≡ Some (Waiting address) → (from ≡ Some (Waiting address)) × (item_at new.items address ≡ None)
still_waits new None to address (inl none) is = absurd (cc)
still_waits new None to address (inr ready) is = absurd (cc)
still_waits new (Some Ready) to address goes is = absurd (cc)
still_waits new (Some Running) to address goes is = absurd (cc)
still_waits new (Some Done) to address goes is = absurd (cc)
still_waits new (Some (Waiting other)) to address (inl stays) is =
    let one : other ≡ address = same (sym stays.1 ∙ is) in
    (ap (λ (a : Addr). Some (Waiting a)) one, ap (item_at new.items) (sym one) ∙ stays.0)
  where
    same : {a b : Addr} → Some (Waiting a) ≡ Some (Waiting b) → a ≡ b
    same is = cc
still_waits new (Some (Waiting other)) to address (inr wakes) is = absurd (ready wakes.1 is)
  where
    ready : {o : Option State} → o ≡ Some Ready → o ≡ Some (Waiting address) → ⊥
    ready one two = cc

module _ (a : Addr) where
  -- the state after the instances that wait there are woken
  abbrev pub woken : Option State → Option State
  woken state = cond (waits_at a state) (Some Ready) state

  pub done_same : (state : Option State) → is_done (woken state) ≡ is_done state
  done_same None = refl
  done_same (Some Ready) = refl
  done_same (Some Running) = refl
  done_same (Some Done) = refl
  done_same (Some (Waiting other)) = at (is_same a other)
    where
      at : (b : Bool) → is_done (cond b (Some Ready) (Some (Waiting other))) ≡ false
      at true = refl
      at false = refl

  pub goes_on : (new : Memory) (old : Addr → Option (ℤ × Producer)) (it : ℤ × Producer) → ((b : Addr) → item_at new.items b ≡ cond (is_same b a) (Some it) (old b))
      → (state : Option State) → ((b : Addr) → state ≡ Some (Waiting b) → old b ≡ None) → MovesOn new state (woken state)
  goes_on new old it items None absent = inl refl
  goes_on new old it items (Some Ready) absent = refl
  goes_on new old it items (Some Running) absent = refl
  goes_on new old it items (Some Done) absent = refl
  goes_on new old it items (Some (Waiting other)) absent = at (is_same a other) refl
    where
      at : (b : Bool) → is_same a other ≡ b
          → ((item_at new.items other ≡ None) × (cond (is_same a other) (Some Ready) (Some (Waiting other)) ≡ Some (Waiting other)))
          ⊎ (IsSome (item_at new.items other) × (cond (is_same a other) (Some Ready) (Some (Waiting other)) ≡ Some Ready))
      at true is =
          let here = items other ∙ ap (λ b. cond b (Some it) (old other)) (ap (λ (x : Addr). is_same x a) (sym (same_address a other is)) ∙ same_itself a) in
          inr (subst IsSome (sym here) refl, ap (λ b. cond b (Some Ready) (Some (Waiting other))) is)
      at false is =
          let here = items other ∙ ap (λ b. cond b (Some it) (old other)) (same_back other a is) ∙ absent other refl in
          inl (here, ap (λ b. cond b (Some Ready) (Some (Waiting other))) is)

  nothing : (b : Bool) → false ≡ cond b false false
  nothing true = refl
  nothing false = refl

  -- who waits at another address, and who at this one
  pub waits_after : (c : Addr) (state : Option State) → waits_at c (woken state) ≡ cond (is_same c a) false (waits_at c state)
  waits_after c None = nothing (is_same c a)
  waits_after c (Some Ready) = nothing (is_same c a)
  waits_after c (Some Running) = nothing (is_same c a)
  waits_after c (Some Done) = nothing (is_same c a)
  waits_after c (Some (Waiting other)) = at (is_same a other) (is_same c a) refl refl
    where
      at : (b d : Bool) → is_same a other ≡ b → is_same c a ≡ d → waits_at c (cond (is_same a other) (Some Ready) (Some (Waiting other))) ≡ cond (is_same c a) false (is_same c other)
      at true true is here =
          ap (λ b. waits_at c (cond b (Some Ready) (Some (Waiting other)))) is ∙ sym (ap (λ b. cond b false (is_same c other)) here)
      at true false is here =
          ap (λ b. waits_at c (cond b (Some Ready) (Some (Waiting other)))) is
          ∙ sym (ap (λ b. cond b false (is_same c other)) here ∙ ap (is_same c) (sym (same_address a other is)) ∙ here)
      at false true is here =
          ap (λ b. waits_at c (cond b (Some Ready) (Some (Waiting other)))) is ∙ ap (λ (x : Addr). is_same x other) (same_address c a here) ∙ is
          ∙ sym (ap (λ b. cond b false (is_same c other)) here)
      at false false is here =
          ap (λ b. waits_at c (cond b (Some Ready) (Some (Waiting other)))) is ∙ sym (ap (λ b. cond b false (is_same c other)) here)

-- who is listed after those that wait at an address were woken and taken off its list
module _ (old new : Memory) (a : Addr) (listed : AreListed old) (taken : new.items.waiting ≡ remove old.items.waiting (place a)) (wakes : Wakes old.instances new.instances (waiters_at old.items a)) where
  pub woken_states : (i : Inst) → state_at new.instances i ≡ woken a (state_at old.instances i)
  woken_states i = wakes.states i ∙ ap (λ b. cond b (Some Ready) (state_at old.instances i)) (listed.listed i a)

  pub woken_listed : (i : Inst) (c : Addr) → is_one_of i (waiters_at new.items c) ≡ waits_at c (state_at new.instances i)
  woken_listed i c =
      ap (is_one_of i) (taken_at old.items new.items a taken c) ∙ none_of (is_same c a) ∙ ap (cond (is_same c a) false) (listed.listed i c) ∙ sym (waits_after a c (state_at old.instances i))
      ∙ ap (waits_at c) (sym (woken_states i))
    where
      none_of : (b : Bool) → is_one_of i (cond b [] (waiters_at old.items c)) ≡ cond b false (is_one_of i (waiters_at old.items c))
      none_of true = refl
      none_of false = refl

  pub woken_once : (c : Addr) → IsOnceEach (waiters_at new.items c)
  woken_once c = subst IsOnceEach (sym (taken_at old.items new.items a taken c)) (few (is_same c a))
    where
      few : (b : Bool) → IsOnceEach (cond b [] (waiters_at old.items c))
      few true = tt
      few false = listed.once c

-- ---- an item

module _ (told : OneFact) (old new : Memory) (a : Addr) (value : ℤ) (by : Producer) where
  module _ (listed : AreListed old) (absent : IsAbsent (facts_of old) a) (adds : AddsAt old.items.items new.items.items (place a) (value, by))
      (taken : new.items.waiting ≡ remove old.items.waiting (place a)) (wakes : Wakes old.instances new.instances (waiters_at old.items a)) (fault : new.fault ≡ old.fault) where
    none : item_at old.items a ≡ None
    none = none_there told a (item_at old.items a) absent

    items : (b : Addr) → item_at new.items b ≡ cond (is_same b a) (Some (value, by)) (item_at old.items b)
    items = put_at old.items new.items a value by adds

    states : (i : Inst) → state_at new.instances i ≡ woken a (state_at old.instances i)
    states = woken_states old new a listed taken wakes

    item_facts : (fact : Fact) → facts_of new fact ≡ with_facts (facts_of old) (item a value by ∷ []) fact
    item_facts (tag name) = ap (λ tags. is_some (get tags (name.collection.0, name.key))) (ap (λ (t : Numbered Bool). t.items) wakes.tags) ∙ sym (or_false _)
    item_facts (item b w q) =
        ap (λ o. is_item o w q) (items b) ∙ item_told told a b value w by q (item_at old.items) none
        ∙ ap (λ c. is_item (item_at old.items b) w q || c) (sym (or_false (is_fact (item a value by) (item b w q))))
    item_facts (done i) = ap is_done (states i) ∙ done_same a (state_at old.instances i) ∙ sym (or_false _)
    item_facts (bad i kind) = ap (λ f. is_fault f i kind) fault ∙ sym (or_false _)

    never : (x y : Bool) → false ≡ (x && (y && false))
    never true true = refl
    never true false = refl
    never false y = refl

    marks : (name : Tag) → mark_of new.instances name ≡ mark_of old.instances name
    marks name = ap (λ (t : Numbered Bool). get t.items (name.collection.0, name.key)) wakes.tags

    given : (producer : Producer) → producer ≡ by → (fact : Fact) → environment_of new fact ≡ with_facts (environment_of old) (given_by producer (put.Item a value)) fact
    given Env is (tag name) = ap (λ o. unwrap_or o false) (marks name) ∙ sym (or_false _)
    given Env is (item b w Env) = item_facts (item b w Env) ∙ ap (λ (p : Producer). is_item (item_at old.items b) w Env || (is_fact (item a value p) (item b w Env) || false)) (sym is)
    given Env is (item b w (By i n)) = never (is_same a b) (int_eq value w) ∙ sym (or_false _)
    given Env is (done i) = refl
    given Env is (bad i kind) = refl
    given (By j m) is (tag name) = ap (λ o. unwrap_or o false) (marks name) ∙ sym (or_false _)
    given (By j m) is (item b w Env) =
        item_facts (item b w Env) ∙ ap (λ c. is_item (item_at old.items b) w Env || c)
        (or_false _ ∙ ap (λ (p : Producer). is_fact (item a value p) (item b w Env)) (sym is) ∙ sym (never (is_same a b) (int_eq value w)))
    given (By j m) is (item b w (By i n)) = refl
    given (By j m) is (done i) = refl
    given (By j m) is (bad i kind) = refl

    goes : (i : Inst) → MovesOn new (state_at old.instances i) (state_at new.instances i)
    goes i =
        subst (MovesOn new (state_at old.instances i)) (sym (states i))
        (goes_on a new (item_at old.items) (value, by) items (state_at old.instances i) (λ b is. listed.absent i b is))

    still_listed : AreListed new
    still_listed = record {
      listed = woken_listed old new a listed taken wakes;
      once = woken_once old new a listed taken wakes;
      absent = λ i c is. (still_waits new (state_at old.instances i) (state_at new.instances i) c (goes i) is).1;
    }

    room_of : (c : ItemCollection) (t : Bool) → nat_eq a.collection.0 c.0 ≡ t → 0 < room_for old.items a.collection → room_for old.items c ≤ room_for new.items c + ((if t then 1 else 0) + 0)
    room_of c true is room =
        let one = same_number a.collection.0 c.0 is in
        subst (λ (n : ℕ). room_at old.items.items n ≤ room_at new.items.items n + 1) one (omega (arith, adds.lower room))
    room_of c false is room =
        omega (arith, adds.other_room.others c.0 (λ one. false≢true (sym is ∙ ap (λ (n : ℕ). a.collection.0 == n) one ∙ itself_number a.collection.0)))

    pub item_comes : 0 < room_for old.items a.collection → Grows old new (item a value by ∷ []) (given_by by (put.Item a value)) (put.Item a value ∷ [])
    item_comes room = record {
      facts = item_facts;
      environment = given by refl;
      states = goes;
      item_collections = adds.other_room.collections;
      tag_collections = ap (λ (t : Numbered Bool). length t.room) wakes.tags;
      prescribers = wakes.prescribers;
      listed = still_listed;
      item_room = λ c. room_of c (nat_eq a.collection.0 c.0) refl room;
      tag_room = λ c. omega (arith, wakes.room c);
    }
