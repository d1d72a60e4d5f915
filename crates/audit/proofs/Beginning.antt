-- What the environment put is marked.
use Rattle.std.proofs.Common.{◌≡◌, ◌⊎◌, ◌∙◌, ℤ, Bool, true, false, List, [], ◌∷◌, Option, None, Some, inl, inr, refl, sym, ap, subst}
use Rattle.std.proofs.lemmas.Bool.{false≢true}
use Rattle.std.specs.Option.{unwrap_or}
use Rattle.terms.specs.declared.name.Addr.{Addr}
use Rattle.terms.specs.declared.name.Tag.{Tag}
use Rattle.terms.specs.declared.producer.Producer.{Producer}
use Rattle.terms.specs.declared.producer.Producer.TheVariants.{Env, By}
use Rattle.terms.specs.declared.event.Event.{Event}
use Rattle.terms.specs.declared.event.Event.TheVariants.{EnvItem, EnvTag}
use Rattle.terms.specs.Facts.{Fact, tag, item, done, bad, event_facts, environment_facts}
use Rattle.terms.specs.Sets.{Facts, OneFact, AmongBoth, among, with_facts}
use Rattle.graph.specs.Fits.{IsAbsent}
use Rattle.items.specs.Held.{item_at}
use Rattle.instances.specs.Known.{mark_of}
use Rattle.machine.specs.Legal.{IsLegal}
use Rattle.machine.specs.Machine.{Machine, environment, facts}
use Rattle.machine.specs.Marked.{IsUnmarked, Marks, MarksItem, MarksMore, MarksTag, if_there, item_facts, marked}
use Rattle.machine.specs.Promise.{IsKept}
use Rattle.machine.specs.StateLaws.{EmptyIsReached, ReachedTakes}
use Rattle.machine.proofs.Sets.{either, or_left, or_right, same_truth}
use Rattle.machine.proofs.Kept.{only}
use Rattle.audit.specs.Replayed.{Grows, IsBegun, IsReplayed}
use Rattle.audit.proofs.Left.{Left, held, more_done, one_done, the_next}
use Rattle.audit.proofs.Stated.{moved_reached, never}

pub begins : EmptyIsReached → (store : Machine) (m : Marks) → IsUnmarked store m → IsBegun store m
begins empty store m none = record {
  of_store = none.store;
  reached = moved_reached store.graph store.graph (among []) (marked m) (among []) (marked m) refl (λ fact. sym (none.unmarked fact)) (λ fact. sym (none.unmarked fact)) (empty store.graph);
  given = λ fact there. absurd (false≢true (sym (none.unmarked fact) ∙ there));
}

module _ (told : OneFact) (both : AmongBoth) where
  -- a fact that is there already adds nothing
  absorbed : (X : Facts) (one : Fact) → X one ≡ true → (fact : Fact) → X fact ≡ with_facts X (one ∷ []) fact
  absorbed X one there fact = same_truth (X fact) (with_facts X (one ∷ []) fact) (λ is. or_left (X fact) (among (one ∷ []) fact) is) back
    where
      back : with_facts X (one ∷ []) fact ≡ true → X fact ≡ true
      back is = elim (either (X fact) (among (one ∷ []) fact) is) [
        | inl before ↦ before
        | inr it ↦ subst (λ (f : Fact). X f ≡ true) (only told both one fact it) there
      ]

  itself : (one : Fact) → among (one ∷ []) one ≡ true
  itself one = or_left _ false (told one one).0

  module _ (takes : ReachedTakes) (store : Machine) (old new : Marks) (event : Event) (one : Fact) (states : event_facts event ≡ one ∷ []) (gives : environment_facts event ≡ one ∷ []) (of_store : environment store one ≡ true) (begun : IsBegun store old)
      (more : MarksMore old new (one ∷ [])) where
    after : (marked old one ≡ true) ⊎ IsLegal store.graph (marked old) event → IsBegun store new
    after (inl there) = record {
      of_store = more.store ∙ begun.of_store;
      reached = moved_reached store.graph store.graph (marked old) (marked new) (marked old) (marked new) refl same same begun.reached;
      given = λ fact is. begun.given fact (same fact ∙ is);
    }
      where
        same : (fact : Fact) → marked old fact ≡ marked new fact
        same fact = absorbed (marked old) one there fact ∙ sym (more.marked fact)
    after (inr legal) = record {
      of_store = more.store ∙ begun.of_store;
      reached =
          moved_reached store.graph store.graph (with_facts (marked old) (environment_facts event)) (marked new) (with_facts (marked old) (event_facts event)) (marked new) refl
          (λ fact. ap (λ (list : List Fact). with_facts (marked old) list fact) gives ∙ sym (more.marked fact)) (λ fact. ap (λ (list : List Fact). with_facts (marked old) list fact) states ∙ sym (more.marked fact))
          (takes store.graph (marked old) (marked old) event begun.reached legal);
      given = λ fact is. elim (either (marked old fact) (among (one ∷ []) fact) (sym (more.marked fact) ∙ is)) [
        | inl before ↦ begun.given fact before
        | inr it ↦ subst (λ (f : Fact). environment store f ≡ true) (only told both one fact it) of_store
      ];
    }

  pub is_marked : (old new : Marks) (one : Fact) → MarksMore old new (one ∷ []) → marked new one ≡ true
  is_marked old new one more = more.marked one ∙ or_right (marked old one) (among (one ∷ []) one) (itself one)

  module _ (takes : ReachedTakes) (store : Machine) (old new : Marks) (kept : IsKept store) (begun : IsBegun store old) where
    -- an item of the environment
    module _ (address : Addr) (value : ℤ) (of_store : facts store (item address value Env) ≡ true) (more : MarksMore old new (item address value Env ∷ [])) where
      absent : marked old (item address value Env) ≡ false → IsAbsent (marked old) address
      absent not w by = never (marked old (item address w by)) is_not
        where
          is_not : marked old (item address w by) ≡ true → ⊥
          is_not there =
              let one = kept.one_item address w value by Env (kept.fits.part (item address w by) (begun.given (item address w by) there)) of_store in
              false≢true (sym not ∙ subst (λ (v : ℤ). marked old (item address v Env) ≡ true) one.0 (subst (λ (p : Producer). marked old (item address w p) ≡ true) one.1 there))

      pub item_begun : IsBegun store new
      item_begun = after takes store old new (EnvItem address value) (item address value Env) refl refl of_store begun more (at (marked old (item address value Env)) refl)
        where
          at : (b : Bool) → marked old (item address value Env) ≡ b → (marked old (item address value Env) ≡ true) ⊎ IsLegal store.graph (marked old) (EnvItem address value)
          at true is = inl is
          at false is = inr (record { working = λ instance kind. refl; event_is_legal = (kept.fits.environment_items address value of_store, absent is) })

    -- a tag
    pub tag_begun : (name : Tag) → environment store (tag name) ≡ true → MarksMore old new (tag name ∷ []) → IsBegun store new
    tag_begun name of_store more = after takes store old new (EnvTag name) (tag name) refl refl of_store begun more (at (marked old (tag name)) refl)
      where
        at : (b : Bool) → marked old (tag name) ≡ b → (marked old (tag name) ≡ true) ⊎ IsLegal store.graph (marked old) (EnvTag name)
        at true is = inl is
        at false is = inr (record { working = λ instance kind. refl; event_is_legal = (kept.fits.environment_tags name of_store, is) })

-- the mark at the address of an item of the store marks that item
pub item_more : OneFact → (store : Machine) (old new : Marks) → old.store ≡ store → (address : Addr) (value : ℤ) (by : Producer) → facts store (item address value by) ≡ true → MarksItem old new address → MarksMore old new (item address value by ∷ [])
item_more told store old new same address value by there more =
    subst (λ (o : Option (ℤ × Producer)). MarksMore old new (item_facts address o))
    (ap (λ (s : Machine). item_at s.memory.items address) same ∙ held told (item_at store.memory.items address) address value by there) more

pub there_more : (old new : Marks) (has : Bool) (one : Fact) → has ≡ true → MarksMore old new (if_there has one) → MarksMore old new (one ∷ [])
there_more old new has one is more = subst (λ (b : Bool). MarksMore old new (if_there b one)) is more

pub still : (old new : Marks) (more : List Fact) → MarksMore old new more → (fact : Fact) → marked old fact ≡ true → marked new fact ≡ true
still old new more it fact there = it.marked fact ∙ or_left (marked old fact) (among more fact) there

-- all that the environment put is marked
pub has_begun : (store : Machine) (m : Marks) → IsKept store → IsBegun store m → ((address : Addr) (value : ℤ) → environment store (item address value Env) ≡ true → marked m (item address value Env) ≡ true)
    → ((one : Tag) → environment store (tag one) ≡ true → marked m (tag one) ≡ true) → IsReplayed store m
has_begun store m kept begun items tags = record {
  of_store = begun.of_store;
  reached = moved_reached store.graph store.graph (marked m) (environment store) (marked m) (marked m) refl (λ fact. same_truth (marked m fact) (environment store fact) (begun.given fact) (back fact)) (λ fact. refl) begun.reached;
  within = λ fact there. kept.fits.part fact (begun.given fact there);
}
  where
    back : (fact : Fact) → environment store fact ≡ true → marked m fact ≡ true
    back (tag name) there = tags name there
    back (item address value Env) there = items address value there
    back (item address value (By instance number)) there = absurd (false≢true there)
    back (done instance) there = absurd (false≢true there)
    back (bad instance kind) there = absurd (false≢true there)

-- ---- walks

-- an item of the store, and whether it is marked where the environment put it; the same of a tag
abbrev pub GivenItem : Machine → Addr × (ℤ × Producer) → Type 0
GivenItem store it = facts store (item it.0 it.1.0 it.1.1) ≡ true

abbrev pub HasGivenItem : Marks → Addr × (ℤ × Producer) → Type 0
HasGivenItem m it = it.1.1 ≡ Env → marked m (item it.0 it.1.0 Env) ≡ true

abbrev pub GivenTag : Machine → Tag × Bool → Type 0
GivenTag store it = mark_of store.memory.instances it.0 ≡ Some it.1

abbrev pub HasGivenTag : Marks → Tag × Bool → Type 0
HasGivenTag m it = it.1 ≡ true → marked m (tag it.0) ≡ true

-- the mark of a tag tells whether the environment put it
pub given : (o : Option Bool) → unwrap_or o false ≡ true → o ≡ Some true
given None is = absurd (false≢true is)
given (Some true) is = refl
given (Some false) is = absurd (false≢true is)

given_tag : (store : Machine) (name : Tag) → mark_of store.memory.instances name ≡ Some true → environment store (tag name) ≡ true
given_tag store name is = ap (λ (o : Option Bool). unwrap_or o false) is

module _ (told : OneFact) (both : AmongBoth) (takes : ReachedTakes) (store : Machine) (old new : Marks) (kept : IsKept store) (begun : IsBegun store old) where
  pub item_went_on : (address : Addr) (value : ℤ) (rest : List (Addr × (ℤ × Producer))) → Left (GivenItem store) (HasGivenItem old) ((address, (value, Env)) ∷ rest) → MarksItem old new address
      → IsBegun store new × Left (GivenItem store) (HasGivenItem new) rest
  item_went_on address value rest left marks =
      let of_store = the_next (GivenItem store) (HasGivenItem old) (address, (value, Env)) rest left in
      let more = item_more told store old new begun.of_store address value Env of_store marks in (
        item_begun told both takes store old new kept begun address value of_store more,
        one_done (GivenItem store) (HasGivenItem new) (address, (value, Env)) rest
            (more_done (GivenItem store) (HasGivenItem old) (HasGivenItem new) ((address, (value, Env)) ∷ rest) (λ it has is. still old new (item address value Env ∷ []) more (item it.0 it.1.0 Env) (has is)) left)
            (λ is. is_marked told both old new (item address value Env) more),
      )

  pub tag_went_on : (name : Tag) (rest : List (Tag × Bool)) → Left (GivenTag store) (HasGivenTag old) ((name, true) ∷ rest) → MarksTag old new name
      → IsBegun store new × Left (GivenTag store) (HasGivenTag new) rest × Grows old new
  tag_went_on name rest left marks =
      let of_store = given_tag store name (the_next (GivenTag store) (HasGivenTag old) (name, true) rest left) in
      let there = ap (λ (s : Machine). facts s (tag name)) begun.of_store ∙ kept.fits.part (tag name) of_store in
      let more = there_more old new (facts old.store (tag name)) (tag name) there marks in (
        tag_begun told both takes store old new kept begun name of_store more,
        one_done (GivenTag store) (HasGivenTag new) (name, true) rest
            (more_done (GivenTag store) (HasGivenTag old) (HasGivenTag new) ((name, true) ∷ rest) (λ it has is. still old new (tag name ∷ []) more (tag it.0) (has is)) left)
            (λ is. is_marked told both old new (tag name) more),
        still old new (tag name ∷ []) more,
      )
