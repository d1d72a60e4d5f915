-- Facts are added to a store, and then more.
use Rattle.std.proofs.Common.{◌≡◌, ◌∙◌, ap, sym, refl, subst, inl, inr, ℕ, ℤ, ◌+◌, ◌<◌, Bool, true, false, if◌then◌else◌, nat_eq, ◌||◌, List, [], ◌∷◌, ◌++◌, Option, Some, None, IsSome, arith}
use Rattle.std.proofs.lemmas.Bool.{false≢true}
use Rattle.std.proofs.lemmas.List.{append_assoc}
use Rattle.terms.specs.declared.name.Addr.{Addr}
use Rattle.terms.specs.declared.name.Inst.{Inst}
use Rattle.terms.specs.declared.name.ItemCollection.{ItemCollection}
use Rattle.terms.specs.declared.name.TagCollection.{TagCollection}
use Rattle.terms.specs.declared.producer.Producer.{Producer}
use Rattle.terms.specs.declared.put.Put.{Put}
use Rattle.terms.specs.declared.put.Put.TheVariants as put
use Rattle.terms.specs.declared.producer.Producer.TheVariants.{By}
use Rattle.terms.specs.Facts.{Fact, tag, item, put_fact}
use Rattle.terms.specs.Sets.{is_fact, among, OneFact}
use Rattle.graph.specs.Fits.{addresses, IsIn, IsAbsent}
use Rattle.items.specs.Held.{item_at}
use Rattle.instances.specs.declared.state.State.{State}
use Rattle.instances.specs.declared.state.State.TheVariants.{Ready, Running, Waiting, Done}
use Rattle.instances.specs.Known.{state_at}
use Rattle.machine.specs.declared.memory.Memory.{Memory}
use Rattle.holdings.specs.ImageLaws.{is_item}
use Rattle.machine.specs.Memory.{facts_of, environment_of, AreListed, MovesOn}
use Rattle.machine.specs.Coming.{AreFree, CanTake, CanTakeAll, Grows, IsFree, fact_of}
use Rattle.machine.proofs.Coming.{or_false, is_itself, itself_number, the_item}
use Rattle.machine.proofs.Tagging.{unmoved}
use Rattle.machine.specs.Putting.{items_to, tags_to}

-- nothing is added
pub grows_none : (m : Memory) → AreListed m → Grows m m [] [] []
grows_none m listed = record {
  facts = λ fact. sym (or_false (facts_of m fact));
  environment = λ fact. sym (or_false (environment_of m fact));
  states = λ i. unmoved m (state_at m.instances i) (λ a. listed.absent i a);
  item_collections = refl;
  tag_collections = refl;
  prescribers = λ n. refl;
  listed = listed;
  item_room = λ c. omega arith;
  tag_room = λ c. omega arith;
}

-- the first put of a list counts beside the others
pub items_with : (c : ItemCollection) (first : Put) (others : List Put) → items_to c (first ∷ others) ≡ items_to c (first ∷ []) + items_to c others
items_with c (put.Item address value) others = omega arith
items_with c (put.Tag name) others = omega arith

pub tags_with : (c : TagCollection) (first : Put) (others : List Put) → tags_to c (first ∷ others) ≡ tags_to c (first ∷ []) + tags_to c others
tags_with c (put.Item address value) others = omega arith
tags_with c (put.Tag name) others = omega arith

pub either_way : (a b c : Bool) → ((a || (b || false)) || c) ≡ (a || (b || c))
either_way true b c = refl
either_way false true c = refl
either_way false false c = refl

module _ (told : OneFact) (old mid new : Memory) where
  -- an item that is there stays
  stays_there : ((fact : Fact) → facts_of mid fact ≡ true → facts_of new fact ≡ true) → (a : Addr) → IsSome (item_at mid.items a) → IsSome (item_at new.items a)
  stays_there within a there = at (item_at mid.items a) refl there
    where
      at : (o : Option (ℤ × Producer)) → item_at mid.items a ≡ o → IsSome o → IsSome (item_at new.items a)
      at None is some = absurd (false≢true some)
      at (Some it) is some =
          subst IsSome (sym (the_item told a (item_at new.items a) it.0 it.1 (within (item a it.0 it.1) (ap (λ o. is_item o it.0 it.1) is ∙ is_itself told a it.0 it.1)))) refl

  goes_both : ((a : Addr) → IsSome (item_at mid.items a) → IsSome (item_at new.items a)) → (from through to : Option State) → MovesOn mid from through → MovesOn new through to → MovesOn new from to
  goes_both kept None through to (inl none) more = subst (λ s. MovesOn new s to) none more
  goes_both kept None through to (inr ready) more = inr (subst (λ s. MovesOn new s to) ready more)
  goes_both kept (Some Ready) through to same more = subst (λ s. MovesOn new s to) same more
  goes_both kept (Some Running) through to same more = subst (λ s. MovesOn new s to) same more
  goes_both kept (Some Done) through to same more = subst (λ s. MovesOn new s to) same more
  goes_both kept (Some (Waiting a)) through to (inl waits) more = subst (λ s. MovesOn new s to) waits.1 more
  goes_both kept (Some (Waiting a)) through to (inr wakes) more = inr (kept a wakes.0, subst (λ s. MovesOn new s to) wakes.1 more)

  -- one fact is added, and then others that the environment did not put
  pub grows_more : (first : Fact) (more given : List Fact) (its_put : Put) (puts : List Put) → Grows old mid (first ∷ []) given (its_put ∷ []) → Grows mid new more [] puts → Grows old new (first ∷ more) given (its_put ∷ puts)
  grows_more first more given its_put puts one rest = record {
    facts = λ fact. rest.facts fact ∙ ap (λ b. b || among more fact) (one.facts fact) ∙ either_way (facts_of old fact) (is_fact first fact) (among more fact);
    environment = λ fact. rest.environment fact ∙ or_false (environment_of mid fact) ∙ one.environment fact;
    states = λ i. goes_both (stays_there (λ fact there. rest.facts fact ∙ or_left (facts_of mid fact) (among more fact) there))
        (state_at old.instances i) (state_at mid.instances i) (state_at new.instances i) (one.states i) (rest.states i);
    item_collections = rest.item_collections ∙ one.item_collections;
    tag_collections = rest.tag_collections ∙ one.tag_collections;
    prescribers = λ n. rest.prescribers n ∙ one.prescribers n;
    listed = rest.listed;
    item_room = λ c. omega (arith, one.item_room c, rest.item_room c, items_with c its_put puts);
    tag_room = λ c. omega (arith, one.tag_room c, rest.tag_room c, tags_with c its_put puts);
  }
    where
      or_left : (a b : Bool) → a ≡ true → (a || b) ≡ true
      or_left true b is = refl
      or_left false b is = absurd (false≢true is)

-- ---- what can still be taken

pub in_later : (a : Addr) (first : Put) (others : List Put) → IsIn a (addresses others) → IsIn a (addresses (first ∷ others))
in_later a (put.Item b value) others is = (b ∷ is.0, is.1, ap (λ (list : List Addr). b ∷ list) is.2)
in_later a (put.Tag name) others is = is

module _ (told : OneFact) (old new : Memory) (by : Producer) (one : Put) (given : List Fact) (grows : Grows old new (fact_of by one ∷ []) given (one ∷ [])) where
  its_address : (address : Addr) (value : ℤ) (producer : Producer) → fact_of by one ≡ item address value producer → IsIn address (addresses (one ∷ []))
  its_address address value producer is = at one is
    where
      same : (b : Addr) (w : ℤ) (q : Producer) → item b w q ≡ item address value producer → b ≡ address
      same b w q is = cc

      at : (p : Put) → fact_of by p ≡ item address value producer → IsIn address (addresses (p ∷ []))
      at (put.Item b w) is = ([], [], ap (λ (a : Addr). a ∷ []) (same b w by is))
      at (put.Tag name) is = absurd (other is)
        where
          other : tag name ≡ item address value producer → ⊥
          other is = cc

  stays_absent : (address : Addr) → (IsIn address (addresses (one ∷ [])) → ⊥) → IsAbsent (facts_of old) address → IsAbsent (facts_of new) address
  stays_absent address other absent value producer =
      grows.facts (item address value producer) ∙ ap (λ b. b || (is_fact (fact_of by one) (item address value producer) || false)) (absent value producer)
      ∙ at (is_fact (fact_of by one) (item address value producer)) refl
    where
      at : (b : Bool) → is_fact (fact_of by one) (item address value producer) ≡ b → (is_fact (fact_of by one) (item address value producer) || false) ≡ false
      at true is = absurd (other (its_address address value producer ((told (fact_of by one) (item address value producer)).1 is)))
      at false is = ap (λ b. b || false) is

  one_stays : (next : Put) → ((address : Addr) → IsIn address (addresses (one ∷ [])) → IsIn address (addresses (next ∷ [])) → ⊥) → IsFree old next → IsFree new next
  one_stays (put.Item address value) apart free = (
    stays_absent address (λ is. apart address is ([], [], refl)) free.0,
    subst (λ (length : ℕ). address.collection.0 < length) (sym grows.item_collections) free.1,
  )
  one_stays (put.Tag name) apart free = tt

  -- after one put the others are free as before
  still_free : (puts : List Put) → ((address : Addr) → IsIn address (addresses (one ∷ [])) → IsIn address (addresses puts) → ⊥) → AreFree old puts → AreFree new puts
  still_free [] apart free = tt
  still_free (next ∷ puts) apart free = (
    one_stays next (λ address here there. apart address here (first_of next address there)) free.0,
    free.1,
    still_free puts (λ address here there. apart address here (in_later address next puts there)) free.2,
  )
    where
      first_of : (next : Put) (address : Addr) → IsIn address (addresses (next ∷ [])) → IsIn address (addresses (next ∷ puts))
      first_of (put.Item b value) address is = (is.0, is.1 ++ addresses puts, ap (λ (list : List Addr). list ++ addresses puts) is.2 ∙ append_assoc is.0 (address ∷ is.1) (addresses puts))
      first_of (put.Tag name) address is = absurd (nowhere is.0 is.2)
        where
          nowhere : (before : List Addr) → [] ≡ before ++ address ∷ is.1 → ⊥
          nowhere [] none = cc
          nowhere (b ∷ before) none = cc

  -- after the first put of a list, the others can be taken
  pub all_stay : (puts : List Put) → CanTakeAll old (one ∷ puts) → CanTakeAll new puts
  all_stay puts can = (
    still_free puts can.0.1 can.0.2,
    record {
      items = λ c. omega (arith, can.1.items c, grows.item_room c, items_with c one puts);
      tags = λ c. omega (arith, can.1.tags c, grows.tag_room c, tags_with c one puts);
    },
  )

-- what a numbered put states is what a put by its instance states
pub fact_is : (i : Inst) (n : ℕ) (one : Put) → put_fact i n one ≡ fact_of (By i n) one
fact_is i n (put.Item address value) = refl
fact_is i n (put.Tag name) = refl

-- a collection counts the put that goes to it
abbrev pub one_if : Bool → ℕ
one_if b = if b then 1 else 0

pub one_to_itself : (n : ℕ) → one_if (nat_eq n n) ≡ 1
one_to_itself n = ap one_if (itself_number n)

-- if a list can be taken, its first put can
pub can_take_one : (m : Memory) (one : Put) (puts : List Put) → CanTakeAll m (one ∷ puts) → CanTake m one
can_take_one m (put.Item address value) puts can = (can.0.0.0, can.0.0.1, omega (arith, can.1.items address.collection, one_to_itself address.collection.0))
can_take_one m (put.Tag name) puts can = omega (arith, can.1.tags name.collection, one_to_itself name.collection.0)
