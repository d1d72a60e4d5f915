-- Marks beside a store, as facts.
use Rattle.std.proofs.Common.{◌≡◌, ◌∙◌, ap, sym, refl, subst, ℤ, Bool, true, false, cond, ◌&&◌, ◌||◌, Option, Some, None, IfSome, IsSomeAnd, is_some}
use Rattle.std.proofs.lemmas.Bool.{false≢true}
use Rattle.std.specs.Option.{option_map, unwrap_or}
use Rattle.std.specs.Ordering.{eq_by_cmp, int_eq, is_eq}
use Rattle.std.specs.FinMap.{get}
use Rattle.terms.specs.declared.name.Addr.{Addr}
use Rattle.terms.specs.declared.name.Inst.{Inst}
use Rattle.terms.specs.declared.name.Tag.{Tag}
use Rattle.terms.specs.declared.producer.Producer.{Producer}
use Rattle.terms.specs.Facts.{Fact, tag, item, done, bad}
use Rattle.terms.specs.Put.{producer_cmp}
use Rattle.terms.specs.Same.{is_same, same_address}
use Rattle.terms.specs.Sets.{OneFact, among, is_fact, with_facts}
use Rattle.holdings.specs.ImageLaws.{is_item}
use Rattle.maps.specs.Marked.{AreAllMarked, AreMarksOf, AreUnmarked, MarkedPlaces, with_mark}
use Rattle.maps.specs.Marked as maps
use Rattle.maps.specs.Numbered.{Place, place_cmp}
use Rattle.maps.specs.PlaceOrder.{places_total}
use Rattle.maps.specs.WithMark.{also_marked, get-with_mark}
use Rattle.items.specs.Held.{item_at, place}
use Rattle.instances.specs.Known.{inst_place, mark_of, state_at, tag_place}
use Rattle.instances.specs.MarkedDone.{NoneIsMarked, done_mark, is_over}
use Rattle.instances.specs.MarkedDone as of_done
use Rattle.machine.specs.Machine.{facts}
use Rattle.machine.specs.Marked.{AreDoneMarked, AreItemsMarked, AreOfStore, AreTagsMarked, IsItemLeft, IsLeft, IsPartOfStore, IsUnmarked, Marks, MarksDone, MarksItem, MarksTag, done_in, if_there, item_facts, item_in, marked, marked_by, tag_in, there_by}
use Rattle.machine.proofs.Coming.{item_is_there}
use Rattle.machine.proofs.MarkedOne.{after, all_marked, and_true, bare, first_none, first_there, item_there, none_else, none_marked, one_left, over_marked, over_or, over_there, part, tag_there}

-- ---- a store, of which nothing is marked

module _ (m : Marks) (items : AreUnmarked m.store.memory.items.items.items m.items) (tags : AreUnmarked m.store.memory.instances.tags.items m.tags) (ends : NoneIsMarked m.store.memory.instances m.done) where
  bare_fresh : {X : Type 0} → (o : Option X) → bare (option_map {U = X × Bool} (λ value. (value, false)) o) ≡ o
  bare_fresh None = refl
  bare_fresh (Some value) = refl

  pub are_of_store : AreOfStore m
  are_of_store = record {
    items = λ key. ap bare (items key) ∙ bare_fresh (get m.store.memory.items.items.items key);
    tags = λ key. ap bare (tags key) ∙ bare_fresh (get m.store.memory.instances.tags.items key);
    done = λ instance. over_there (get m.done (inst_place instance)) ∙ ap is_some (ends instance) ∙ first_there (state_at m.store.memory.instances instance);
  }

  pub is_unmarked : IsUnmarked m.store m
  is_unmarked = record { store = refl; unmarked = at }
    where
      at : (fact : Fact) → marked m fact ≡ false
      at (tag name) = ap (marked_by (λ _. true)) (tags (tag_place name)) ∙ none_marked (λ _. true) (get m.store.memory.instances.tags.items (tag_place name))
      at (item address value by) =
          ap (marked_by (λ there. is_item (Some there) value by)) (items (place address)) ∙ none_marked (λ there. is_item (Some there) value by) (get m.store.memory.items.items.items (place address))
      at (done instance) = over_or (get m.done (inst_place instance)) ∙ ap (λ d. unwrap_or d false) (ends instance) ∙ first_none (state_at m.store.memory.instances instance)
      at (bad instance kind) = refl

-- ---- one more mark

-- the facts of other kinds
no_item : (address : Addr) (o : Option (ℤ × Producer)) (fact : Fact) → ((value : ℤ) (by : Producer) → is_fact (item address value by) fact ≡ false) → among (item_facts address o) fact ≡ false
no_item address None fact other = refl
no_item address (Some there) fact other = ap (λ b. b || false) (other there.0 there.1)

no_other : (has : Bool) (one fact : Fact) → is_fact one fact ≡ false → among (if_there has one) fact ≡ false
no_other true one fact other = ap (λ b. b || false) other
no_other false one fact other = refl

-- the facts of the kind: of two that are the same, the store has both or none
of_kind : (same here there : Bool) (one fact : Fact) → is_fact one fact ≡ same → (same ≡ true → here ≡ there) → (same && there) ≡ among (if_there here one) fact
of_kind false true there one fact is agree = sym (ap (λ b. b || false) is)
of_kind false false there one fact is agree = refl
of_kind true true there one fact is agree = sym (agree refl) ∙ sym (ap (λ b. b || false) is)
of_kind true false there one fact is agree = sym (agree refl)

still_bare : {X : Type 0} → (same : Bool) (o : Option (X × Bool)) → bare (option_map (also_marked same) o) ≡ bare o
still_bare same None = refl
still_bare same (Some entry) = refl

bare_after : {X : Type 0} → (marks : MarkedPlaces X) (at other : Place) → bare (get (with_mark marks at) other) ≡ bare (get marks other)
bare_after marks at other = ap bare (get-with_mark places_total marks at other) ∙ still_bare (eq_by_cmp place_cmp other at) (get marks other)

-- an item at an address, beside the item at another one
item_beside : (items : Addr → Option (ℤ × Producer)) (a b : Addr) (w : ℤ) (q : Producer) → (is_same a b && is_item (items b) w q) ≡ among (item_facts a (items a)) (item b w q)
item_beside items a b w q = at (is_same a b) refl
  where
    here : (o : Option (ℤ × Producer)) → (is_same a a && is_item o w q) ≡ among (item_facts a o) (item a w q)
    here None = nothing (is_same a a)
      where
        nothing : (b : Bool) → (b && false) ≡ false
        nothing true = refl
        nothing false = refl
    here (Some there) = none_else (is_same a a && is_item (Some there) w q)

    apart : (o : Option (ℤ × Producer)) → is_same a b ≡ false → among (item_facts a o) (item b w q) ≡ false
    apart None differs = refl
    apart (Some there) differs = ap (λ s. s && (int_eq there.0 w && is_eq (producer_cmp there.1 q)) || false) differs

    at : (same : Bool) → is_same a b ≡ same → (is_same a b && is_item (items b) w q) ≡ among (item_facts a (items a)) (item b w q)
    at true is = subst (λ (x : Addr). (is_same a x && is_item (items x) w q) ≡ among (item_facts a (items a)) (item x w q)) (same_address a b is) (here (items a))
    at false is = ap (λ s. s && is_item (items b) w q) is ∙ sym (apart (items a) is)

-- ---- what is there, and whether it is marked

abbrev item_told : Marks → Addr → ℤ × Producer → ℤ × Producer × Bool
item_told m address there = (there.0, there.1, marked m (item address there.0 there.1))

abbrev pub in_one_of : Option ((ℤ × Producer) × Bool) → Option (ℤ × Producer × Bool)
in_one_of o = option_map (λ entry. (entry.0.0, entry.0.1, entry.1)) o

abbrev tag_told : Marks → Tag → Bool → Bool × Bool
tag_told m name given = (given, marked m (tag name))

module _ (m : Marks) (are : AreOfStore m) where
  has_item : (address : Addr) (value : ℤ) (by : Producer) → there_by (λ there. is_item (Some there) value by) (bare (get m.items (place address))) ≡ facts m.store (item address value by)
  has_item address value by = ap (there_by (λ there. is_item (Some there) value by)) (are.items (place address)) ∙ item_there (item_at m.store.memory.items address) value by

  has_tag : (name : Tag) → there_by (λ _. true) (bare (get m.tags (tag_place name))) ≡ facts m.store (tag name)
  has_tag name = ap (there_by (λ _. true)) (are.tags (tag_place name)) ∙ tag_there (mark_of m.store.memory.instances name)

  pub is_part : IsPartOfStore m
  is_part (tag name) is = sym (has_tag name) ∙ part (λ _. true) (get m.tags (tag_place name)) is
  is_part (item address value by) is = sym (has_item address value by) ∙ part (λ there. is_item (Some there) value by) (get m.items (place address)) is
  is_part (done instance) is = sym (are.done instance) ∙ part is_over (get m.done (inst_place instance)) is
  is_part (bad instance kind) is = absurd (false≢true is)

  -- ---- what is left

  pub items_marked : AreAllMarked m.items → AreItemsMarked m
  items_marked all address value by is = all_marked (λ there. is_item (Some there) value by) (get m.items (place address)) (all (place address)) (has_item address value by ∙ is)

  pub tags_marked : AreAllMarked m.tags → AreTagsMarked m
  tags_marked all name is = all_marked (λ _. true) (get m.tags (tag_place name)) (all (tag_place name)) (has_tag name ∙ is)

  pub done_marked : of_done.AreDoneMarked m.done → AreDoneMarked m
  done_marked all instance is =
      over_or (get m.done (inst_place instance))
      ∙ at (of_done.done_in (get m.done (inst_place instance))) (sym (over_there (get m.done (inst_place instance))) ∙ are.done instance ∙ is) (all instance)
    where
      at : (d : Option Bool) → is_some d ≡ true → IfSome d (λ marked. marked ≡ true) → unwrap_or d false ≡ true
      at None some all = absurd (false≢true some)
      at (Some b) some all = all

  pub item_left : (address : Addr) → maps.IsLeft m.items (place address) → IsItemLeft m address
  item_left address left = at (get m.items (place address)) refl left
    where
      at : (o : Option ((ℤ × Producer) × Bool)) → get m.items (place address) ≡ o → IsSomeAnd o (λ entry. entry.1 ≡ false) → IsItemLeft m address
      at None is none = absurd none
      at (Some entry) is unmarked =
          subst (λ (o : Option (ℤ × Producer)). IsSomeAnd (option_map (item_told m address) o) (λ there. there.2 ≡ false)) (sym (ap bare is) ∙ are.items (place address))
          (one_left (λ there. is_item (Some there) entry.0.0 entry.0.1) (get m.items (place address)) left)

  pub tag_left : (name : Tag) → maps.IsLeft m.tags (tag_place name) → IsLeft m (tag name)
  tag_left name left = record { there = sym (has_tag name) ∙ at (get m.tags (tag_place name)) left; unmarked = one_left (λ _. true) (get m.tags (tag_place name)) left }
    where
      at : (o : Option (Bool × Bool)) → IsSomeAnd o (λ entry. entry.1 ≡ false) → there_by (λ _. true) (bare o) ≡ true
      at None none = absurd none
      at (Some entry) unmarked = refl

  pub done_left : (instance : Inst) → done_mark m.done instance ≡ Some false → IsLeft m (done instance)
  done_left instance left = record {
    there = sym (are.done instance) ∙ over_there (get m.done (inst_place instance)) ∙ ap is_some left;
    unmarked = over_or (get m.done (inst_place instance)) ∙ ap (λ d. unwrap_or d false) left;
  }

  -- ---- what is there

  pub item_is_in : OneFact → (address : Addr) (o : Option ((ℤ × Producer) × Bool)) → get m.items (place address) ≡ o → option_map {U = ℤ × Producer × Bool} (λ entry. (entry.0.0, entry.0.1, entry.1)) o ≡ item_in m address
  item_is_in told address None is = ap (option_map (item_told m address)) (sym (ap bare is) ∙ are.items (place address))
  item_is_in told address (Some entry) is =
      (λ i. Some (entry.0.0, entry.0.1, (sym (and_true entry.1) ∙ ap (λ b. entry.1 && b) (sym (item_is_there told address (Some entry.0) entry.0.0 entry.0.1 refl)) ∙ ap (marked_by (λ there. is_item (Some there) entry.0.0 entry.0.1)) (sym is)) i))
      ∙ ap (option_map (item_told m address)) (sym (ap bare is) ∙ are.items (place address))

  pub tag_is_in : (name : Tag) → get m.tags (tag_place name) ≡ tag_in m name
  tag_is_in name = at (get m.tags (tag_place name)) refl
    where
      at : (o : Option (Bool × Bool)) → get m.tags (tag_place name) ≡ o → get m.tags (tag_place name) ≡ option_map (tag_told m name) (mark_of m.store.memory.instances name)
      at None is = is ∙ ap (option_map (tag_told m name)) (sym (ap bare is) ∙ are.tags (tag_place name))
      at (Some entry) is =
          is ∙ (λ i. Some (entry.0, (sym (and_true entry.1) ∙ ap (marked_by (λ _. true)) (sym is)) i)) ∙ ap (option_map (tag_told m name)) (sym (ap bare is) ∙ are.tags (tag_place name))

  pub done_is_in : (instance : Inst) → done_mark m.done instance ≡ done_in m instance
  done_is_in instance = over_marked (get m.done (inst_place instance)) ∙ ap (λ b. cond b (Some (marked m (done instance))) None) (are.done instance)

  -- ---- one more mark

  module _ (told : OneFact) where
    pub item_still : (address : Addr) → AreOfStore (record { store = m.store; items = with_mark m.items (place address); tags = m.tags; done = m.done })
    item_still address = record { items = λ key. bare_after m.items (place address) key ∙ are.items key; tags = are.tags; done = are.done }

    pub item_more : (address : Addr) → MarksItem m (record { store = m.store; items = with_mark m.items (place address); tags = m.tags; done = m.done }) address
    item_more address = record { store = refl; marked = at }
      where
        at : (fact : Fact) → marked (record { store = m.store; items = with_mark m.items (place address); tags = m.tags; done = m.done }) fact ≡ with_facts (marked m) (item_facts address (item_at m.store.memory.items address)) fact
        at (tag name) = none_else (marked m (tag name)) ∙ ap (λ b. marked m (tag name) || b) (sym (no_item address (item_at m.store.memory.items address) (tag name) (λ value by. refl)))
        at (item b w q) =
            after (λ there. is_item (Some there) w q) m.items (place address) (place b)
            ∙ ap (λ x. marked m (item b w q) || (is_same address b && x)) (has_item b w q) ∙ ap (λ x. marked m (item b w q) || x) (item_beside (item_at m.store.memory.items) address b w q)
        at (done instance) = none_else (marked m (done instance)) ∙ ap (λ b. marked m (done instance) || b) (sym (no_item address (item_at m.store.memory.items address) (done instance) (λ value by. refl)))
        at (bad instance kind) = sym (no_item address (item_at m.store.memory.items address) (bad instance kind) (λ value by. refl))

    pub tag_still : (name : Tag) → AreOfStore (record { store = m.store; items = m.items; tags = with_mark m.tags (tag_place name); done = m.done })
    tag_still name = record { items = are.items; tags = λ key. bare_after m.tags (tag_place name) key ∙ are.tags key; done = are.done }

    pub tag_more : (name : Tag) → MarksTag m (record { store = m.store; items = m.items; tags = with_mark m.tags (tag_place name); done = m.done }) name
    tag_more name = record { store = refl; marked = at }
      where
        at : (fact : Fact) → marked (record { store = m.store; items = m.items; tags = with_mark m.tags (tag_place name); done = m.done }) fact ≡ with_facts (marked m) (if_there (facts m.store (tag name)) (tag name)) fact
        at (tag b) =
            after (λ _. true) m.tags (tag_place name) (tag_place b) ∙ ap (λ x. marked m (tag b) || (is_fact (tag name) (tag b) && x)) (has_tag b)
            ∙ ap (λ x. marked m (tag b) || x) (of_kind (is_fact (tag name) (tag b)) (facts m.store (tag name)) (facts m.store (tag b)) (tag name) (tag b) refl (λ so. ap (facts m.store) ((told (tag name) (tag b)).1 so)))
        at (item b w q) = none_else (marked m (item b w q)) ∙ ap (λ x. marked m (item b w q) || x) (sym (no_other (facts m.store (tag name)) (tag name) (item b w q) refl))
        at (done instance) = none_else (marked m (done instance)) ∙ ap (λ x. marked m (done instance) || x) (sym (no_other (facts m.store (tag name)) (tag name) (done instance) refl))
        at (bad instance kind) = sym (no_other (facts m.store (tag name)) (tag name) (bad instance kind) refl)

    pub done_still : (instance : Inst) → AreOfStore (record { store = m.store; items = m.items; tags = m.tags; done = with_mark m.done (inst_place instance) })
    done_still instance = record { items = are.items; tags = are.tags; done = λ other. ap (there_by is_over) (bare_after m.done (inst_place instance) (inst_place other)) ∙ are.done other }

    pub done_more : (instance : Inst) → MarksDone m (record { store = m.store; items = m.items; tags = m.tags; done = with_mark m.done (inst_place instance) }) instance
    done_more instance = record { store = refl; marked = at }
      where
        at : (fact : Fact) → marked (record { store = m.store; items = m.items; tags = m.tags; done = with_mark m.done (inst_place instance) }) fact ≡ with_facts (marked m) (if_there (facts m.store (done instance)) (done instance)) fact
        at (tag b) = none_else (marked m (tag b)) ∙ ap (λ x. marked m (tag b) || x) (sym (no_other (facts m.store (done instance)) (done instance) (tag b) refl))
        at (item b w q) = none_else (marked m (item b w q)) ∙ ap (λ x. marked m (item b w q) || x) (sym (no_other (facts m.store (done instance)) (done instance) (item b w q) refl))
        at (done b) =
            after is_over m.done (inst_place instance) (inst_place b) ∙ ap (λ x. marked m (done b) || (is_fact (done instance) (done b) && x)) (are.done b)
            ∙ ap (λ x. marked m (done b) || x) (of_kind (is_fact (done instance) (done b)) (facts m.store (done instance)) (facts m.store (done b)) (done instance) (done b) refl (λ so. ap (facts m.store) ((told (done instance) (done b)).1 so)))
        at (bad b kind) = sym (no_other (facts m.store (done instance)) (done instance) (bad b kind) refl)
