-- What a store holds if only room is added.
use Rattle.std.proofs.Common.{◌≡◌, ◌≢◌, ◌∙◌, ap, sym, refl, subst, ℕ, zero, suc, ℤ, ◌==◌, ◌<◌, ◌≤◌, Bool, true, false, List, [], ◌∷◌, length, get_or, Option, is_some, arith}
use Rattle.std.proofs.lemmas.Bool.{false≢true}
use Rattle.std.specs.Cmp.{unsigned_Decides}
use Rattle.std.specs.List.{AllByRecursion}
use Rattle.std.specs.Option.{unwrap_or}
use Rattle.std.specs.FinMap.{get, FinMap}
use Rattle.terms.specs.declared.name.Addr.{Addr}
use Rattle.terms.specs.declared.name.Tag.{Tag}
use Rattle.terms.specs.declared.name.Inst.{Inst}
use Rattle.terms.specs.declared.name.ItemCollection.{ItemCollection}
use Rattle.terms.specs.declared.name.TagCollection.{TagCollection}
use Rattle.terms.specs.declared.fault.FaultKind.{FaultKind}
use Rattle.terms.specs.declared.producer.Producer.{Producer}
use Rattle.terms.specs.declared.producer.Producer.TheVariants.{Env, By}
use Rattle.terms.specs.declared.put.Put.{Put}
use Rattle.terms.specs.Facts.{Fact, tag, item, done, bad}
use Rattle.terms.specs.Sets.{Facts}
use Rattle.maps.specs.Numbered.{place_cmp, OnlyMakesRoom as MapMakesRoom}
use Rattle.graph.specs.Graph.{Graph}
use Rattle.items.specs.Held as items
use Rattle.items.specs.Held.{Held, place, item_at, waiters_at}
use Rattle.items.specs.Once.{IsOnceEach, is_one_of}
use Rattle.instances.specs.Known.{Known, mark_of, tag_place, state_at, prescriber_at}
use Rattle.instances.specs.Known as instances
use Rattle.machine.specs.declared.memory.Memory.{Memory}
use Rattle.machine.specs.Legal.{IsLegal}
use Rattle.holdings.specs.ImageLaws.{is_fault, is_item}
use Rattle.machine.specs.Memory.{is_done, waits_at, facts_of, environment_of, AreListed, IsOf}
use Rattle.machine.specs.Room.{GivesRoom, OnlyMakesRoom}
use Rattle.machine.proofs.Worked.{same_is_of}

module _ (old new : Memory) (same_items : (a : Addr) → item_at new.items a ≡ item_at old.items a) (marks : (name : Tag) → mark_of new.instances name ≡ mark_of old.instances name)
    (states : (i : Inst) → state_at new.instances i ≡ state_at old.instances i) (fault : new.fault ≡ old.fault) where
  same_facts : (fact : Fact) → facts_of new fact ≡ facts_of old fact
  same_facts (tag name) = ap is_some (marks name)
  same_facts (item a v by) = ap (λ (o : Option (ℤ × Producer)). is_item o v by) (same_items a)
  same_facts (done i) = ap is_done (states i)
  same_facts (bad i kind) = ap (λ (f : Option (Inst × FaultKind)). is_fault f i kind) fault

  same_environment : (fact : Fact) → environment_of new fact ≡ environment_of old fact
  same_environment (tag name) = ap (λ (o : Option Bool). unwrap_or o false) (marks name)
  same_environment (item a v Env) = ap (λ (o : Option (ℤ × Producer)). is_item o v Env) (same_items a)
  same_environment (item a v (By i n)) = refl
  same_environment (done i) = refl
  same_environment (bad i kind) = refl

  same_listed : ((a : Addr) → waiters_at new.items a ≡ waiters_at old.items a) → AreListed old → AreListed new
  same_listed waiters listed = record {
    listed = λ i a. ap (is_one_of i) (waiters a) ∙ listed.listed i a ∙ ap (waits_at a) (sym (states i));
    once = λ a. subst IsOnceEach (sym (waiters a)) (listed.once a);
    absent = λ i a here. same_items a ∙ listed.absent i a (sym (states i) ∙ here);
  }

  still_is_of : (g : Graph) → IsOf g old → ((a : Addr) → waiters_at new.items a ≡ waiters_at old.items a) → length new.items.items.room ≡ length old.items.items.room
      → length new.instances.tags.room ≡ length old.instances.tags.room → ((number : ℕ) → prescriber_at new.instances number ≡ prescriber_at old.instances number) → IsOf g new
  still_is_of g is waiters item_rooms tag_rooms prescribers =
      same_is_of g old new is same_facts same_environment item_rooms tag_rooms prescribers (λ i a here. is.needs i a (sym (states i) ∙ here)) (same_listed waiters is.listed)

  only_room : ((a : Addr) → waiters_at new.items a ≡ waiters_at old.items a) → length new.items.items.room ≡ length old.items.items.room
      → length new.instances.tags.room ≡ length old.instances.tags.room → ((number : ℕ) → prescriber_at new.instances number ≡ prescriber_at old.instances number)
      → ((c : ItemCollection) → items.room_for old.items c ≤ items.room_for new.items c)
      → ((c : TagCollection) → instances.room_for old.instances c ≤ instances.room_for new.instances c) → OnlyMakesRoom old new
  only_room waiters item_rooms tag_rooms prescribers items_more tags_more = record {
    facts = same_facts;
    environment = same_environment;
    states = states;
    is_of = λ g is. still_is_of g is waiters item_rooms tag_rooms prescribers;
    item_collections = item_rooms;
    tag_collections = tag_rooms;
    item_room = items_more;
    tag_room = tags_more;
  }

-- if one number has no less and the others have as much, none has less
not_less_at : (k n : ℕ) (old new : ℕ → ℕ) → old n ≤ new n → (k ≢ n → new k ≡ old k) → old k ≤ new k
not_less_at k n old new here others = at (k == n) refl
  where
    at : (b : Bool) → (k == n) ≡ b → old k ≤ new k
    at true is = subst (λ (j : ℕ). old j ≤ new j) (sym ((unsigned_Decides k n).0 is)) here
    at false is = (let same = others (λ one. false≢true (sym is ∙ (unsigned_Decides k n).1 one)) in omega (arith, same))

-- ---- one collection

module _ (old : Memory) (held : Held) (collection : ItemCollection) (grows : MapMakesRoom old.items.items held.items collection.0) (waiting : held.waiting ≡ old.items.waiting) where
  abbrev pub with_items : Memory
  with_items = record { items = held; instances = old.instances; fault = old.fault }

  items_stay : (a : Addr) → item_at held a ≡ item_at old.items a
  items_stay a = ap (λ (m : FinMap place_cmp (ℤ × Producer)). get m (place a)) grows.items

  pub made_for_items : OnlyMakesRoom old with_items
  made_for_items = only_room old with_items items_stay (λ name. refl) (λ i. refl) refl
      (λ a. ap (λ (w : FinMap place_cmp (List Inst)). unwrap_or (get w (place a)) []) waiting) grows.other_room.collections refl (λ n. refl)
      (λ c. not_less_at c.0 collection.0 (λ k. get_or old.items.items.room k 0) (λ k. get_or held.items.room k 0) grows.not_less (grows.other_room.others c.0))
      (λ c. omega arith)

module _ (old : Memory) (known : Known) (collection : TagCollection) (grows : instances.OnlyMakesRoom old.instances known collection) where
  abbrev pub with_tags : Memory
  with_tags = record { items = old.items; instances = known; fault = old.fault }

  marks_stay : (name : Tag) → mark_of known name ≡ mark_of old.instances name
  marks_stay name = ap (λ (m : FinMap place_cmp Bool). get m (tag_place name)) grows.tags

  pub made_for_tags : OnlyMakesRoom old with_tags
  made_for_tags = only_room old with_tags (λ a. refl) marks_stay grows.states refl (λ a. refl) refl grows.tag_collections grows.prescribers
      (λ c. omega arith)
      (λ c. not_less_at c.0 collection.0 (λ (k : ℕ). instances.room_for old.instances (record { 0 = k })) (λ (k : ℕ). instances.room_for known (record { 0 = k })) grows.not_less (grows.other_room c))

-- ---- one after the other

pub no_room : (m : Memory) → OnlyMakesRoom m m
no_room m = record {
  facts = λ fact. refl;
  environment = λ fact. refl;
  states = λ i. refl;
  is_of = λ g is. is;
  item_collections = refl;
  tag_collections = refl;
  item_room = λ c. omega arith;
  tag_room = λ c. omega arith;
}

pub more_room : (old mid new : Memory) → OnlyMakesRoom old mid → OnlyMakesRoom mid new → OnlyMakesRoom old new
more_room old mid new first then_more = record {
  facts = λ fact. then_more.facts fact ∙ first.facts fact;
  environment = λ fact. then_more.environment fact ∙ first.environment fact;
  states = λ i. then_more.states i ∙ first.states i;
  is_of = λ g is. then_more.is_of g (first.is_of g is);
  item_collections = then_more.item_collections ∙ first.item_collections;
  tag_collections = then_more.tag_collections ∙ first.tag_collections;
  item_room = λ c. (let one = first.item_room c in let two = then_more.item_room c in omega (arith, one, two));
  tag_room = λ c. (let one = first.tag_room c in let two = then_more.tag_room c in omega (arith, one, two));
}

-- ---- the machine

pub gives_room : (g : Graph) (old new : Memory) → OnlyMakesRoom old new → GivesRoom (record { graph = g; memory = old }) (record { graph = g; memory = new })
gives_room g old new made = record {
  graph = refl;
  facts = made.facts;
  environment = made.environment;
  states = made.states;
  legal = λ event. subst (λ (X : Facts). IsLegal g X event) (λ i fact. sym (made.facts fact) i);
  item_room = made.item_room;
  tag_room = made.tag_room;
}

-- what holds of each put holds of the one at an index
pub all_at : (P : Put → Type 0) (n : ℕ) (puts : List Put) (one : Put) → AllByRecursion P puts → n < length puts → one ≡ get_or puts n one → P one
all_at P n [] one all within is = absurd (omega (arith, within))
all_at P zero (first ∷ rest) one all within is = subst P (sym is) all.0
all_at P (suc n) (first ∷ rest) one all within is = all_at P n rest one all.1 (omega (arith, within)) is
