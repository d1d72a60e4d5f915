-- What is held grows by one put, one end or one fault.
use Rattle.std.proofs.Common.{◌≡◌, ◌↔◌, IsTrue, ℤ, Bool, true, false, cond, ◌&&◌, ◌||◌, List, [], ◌∷◌, Option, Some, None, is_some, refl, sym, ap, subst, ◌∙◌}
use Rattle.std.proofs.lemmas.Bool.{false≢true}
use Rattle.std.specs.Cmp.{Equal-is, eq_by_cmp_equiv}
use Rattle.std.specs.FinMap.{FinMap, get, insert, get-insert}
use Rattle.std.specs.List.{AllByRecursion}
use Rattle.std.specs.Option.{unwrap_or}
use Rattle.std.specs.Ordering.{eq_by_cmp, int_eq, is_eq}
use Rattle.terms.specs.declared.name.Addr.{Addr}
use Rattle.terms.specs.declared.name.Tag.{Tag}
use Rattle.terms.specs.declared.name.Inst.{Inst}
use Rattle.terms.specs.declared.producer.Producer.{Producer}
use Rattle.terms.specs.declared.producer.Producer.TheVariants.{Env, By}
use Rattle.terms.specs.Facts.{Fact, tag, item, done, bad}
use Rattle.terms.specs.Name.{tag_cmp}
use Rattle.terms.specs.Same.{is_same}
use Rattle.terms.specs.Sets.{is_fact, among, OneFact, AmongBoth}
use Rattle.codec.specs.declared.image.Image.{Image}
use Rattle.codec.specs.Spelling.{HasPutNumber, IsNumbered}
use Rattle.codec.specs.Image.{facts_in, image_facts, image_environment, environment_item, environment_tag}
use Rattle.maps.specs.Numbered.{Place, place_cmp}
use Rattle.maps.specs.PlaceOrder.{places_total, same_places}
use Rattle.items.specs.Held.{place}
use Rattle.instances.specs.Known.{inst_place, tag_place}
use Rattle.holdings.specs.Holdings.{Holdings, image_of, with_item, with_tag, with_done}
use Rattle.holdings.specs.ImageLaws.{ImagesTell, DoneTell, TellsRest, is_item}
use Rattle.sides.specs.Growth.{Grows}
use Rattle.sides.proofs.Entries.{each_item, same_value}
use Rattle.sides.proofs.Grown.{held_already, unchanged}
use Rattle.sides.proofs.Said.{said, given, facts_said, facts_given}

abbrev Entry : Type 0
Entry = ℤ × Producer

-- ---- one entry more, where there was none

or_false : (b : Bool) → b ≡ (b || false)
or_false true = refl
or_false false = refl

some_more : {X : Type 0} (s : Bool) (x : X) (there : Option X) → is_some (cond s (Some x) there) ≡ (is_some there || (s || false))
some_more true x None = refl
some_more true x (Some other) = refl
some_more false x there = or_false _

item_more : (s : Bool) (one : Entry) (there : Option Entry) → (s ≡ true → there ≡ None) → (value : ℤ) (by : Producer)
    → is_item (cond s (Some one) there) value by ≡ (is_item there value by || ((s && is_item (Some one) value by) || false))
item_more true one there none value by = or_false _ ∙ ap (λ o. is_item o value by || (is_item (Some one) value by || false)) (sym (none refl))
item_more false one there none value by = or_false _

mark_more : (s mark : Bool) (there : Option Bool) → (s ≡ true → there ≡ None) → unwrap_or (cond s (Some mark) there) false ≡ (unwrap_or there false || ((s && mark) || false))
mark_more true mark there none = or_false _ ∙ ap (λ (o : Option Bool). unwrap_or o false || (mark || false)) (sym (none refl))
mark_more false mark there none = or_false _

-- what was not put is there already
pub there_already : {X : Type 0} (there : Option X) (fresh : Bool) → IsTrue fresh ↔ (there ≡ None) → fresh ≡ false → is_some there ≡ true
there_already None fresh absent isnt = absurd (false≢true (sym isnt ∙ absent.1 refl))
there_already (Some x) fresh absent isnt = refl

-- an item of an instance is none of the environment
never : (a b : Bool) → ((a && (b && false)) || false) ≡ false
never true true = refl
never true false = refl
never false b = refl

-- an entry is inserted
more_at : {X : Type 0} (m : FinMap place_cmp X) (at : Place) (x : X) (k : Place) → get (insert m at x) k ≡ cond (eq_by_cmp place_cmp at k) (Some x) (get m k)
more_at m at x k = get-insert places_total m at x k ∙ ap (λ b. cond b (Some x) (get m k)) ((eq_by_cmp_equiv places_total).symm k at)

none_at : {X : Type 0} (m : FinMap place_cmp X) (at k : Place) → get m at ≡ None → eq_by_cmp place_cmp at k ≡ true → get m k ≡ None
none_at m at k none same = ap (get m) (sym (same_places at k ((Equal-is (place_cmp at k)).0 same))) ∙ none

-- ---- what a change adds

module _ (both : AmongBoth) (maps : ImagesTell) (ends : DoneTell) (rest : (image : Image) → TellsRest image) where
  module _ (h : Holdings) where
    grows : {by stated : List Fact} (new : Holdings) → ((fact : Fact) → said new fact ≡ (said h fact || among stated fact))
        → ((fact : Fact) → given new.items new.tags fact ≡ (given h.items h.tags fact || among by fact)) → new.counts ≡ h.counts → Grows by stated h new
    grows {by} {stated} new says gives counts = record {
      facts = record { same = λ fact. facts_said maps ends rest new fact ∙ says fact ∙ ap (λ b. b || among stated fact) (sym (facts_said maps ends rest h fact)) ∙ sym (both (image_facts (image_of h)) stated fact) };
      environment = record { same = λ fact. facts_given maps ends rest new fact ∙ gives fact ∙ ap (λ b. b || among by fact) (sym (facts_given maps ends rest h fact)) ∙ sym (both (image_environment (image_of h)) by fact) };
      counts = counts;
    }

    -- a fact that is held already
    pub held_grows : OneFact → (fact : Fact) → facts_in (image_of h) fact ≡ true → Grows [] (fact ∷ []) h h
    held_grows one_fact fact held = record { facts = held_already both one_fact (image_facts (image_of h)) fact held; environment = unchanged (image_environment (image_of h)); counts = refl }

    module _ (address : Addr) (value : ℤ) (by : Producer) (none : get h.items (place address) ≡ None) where
      item_there : (b : Addr) (w : ℤ) (q : Producer) → is_item (get (with_item h address value by).items (place b)) w q ≡ (said h (item b w q) || (is_fact (item address value by) (item b w q) || false))
      item_there b w q =
          ap (λ o. is_item o w q) (more_at h.items (place address) (value, by) (place b))
          ∙ item_more (is_same address b) (value, by) (get h.items (place b)) (none_at h.items (place address) (place b) none) w q

      item_says : (fact : Fact) → said (with_item h address value by) fact ≡ (said h fact || among (item address value by ∷ []) fact)
      item_says (tag name) = or_false _
      item_says (item b w q) = item_there b w q
      item_says (done instance) = or_false _
      item_says (bad instance kind) = or_false _

    module _ (address : Addr) (value : ℤ) (none : get h.items (place address) ≡ None) where
      item_gives : (by : Producer) (fact : Fact) → given (with_item h address value by).items h.tags fact ≡ (given h.items h.tags fact || among (environment_item address value by) fact)
      item_gives by (tag name) = at by
        where
          at : (q : Producer) → unwrap_or (get h.tags (tag_place name)) false ≡ (unwrap_or (get h.tags (tag_place name)) false || among (environment_item address value q) (tag name))
          at Env = or_false _
          at (By i n) = or_false _
      item_gives Env (item b w Env) = item_there address value Env none b w Env
      item_gives Env (item b w (By instance number)) = sym (never (is_same address b) (int_eq value w))
      item_gives Env (done instance) = refl
      item_gives Env (bad instance kind) = refl
      item_gives (By i n) (item b w Env) = item_there address value (By i n) none b w Env ∙ ap (λ c. is_item (get h.items (place b)) w Env || c) (never (is_same address b) (int_eq value w))
      item_gives (By i n) (item b w (By instance number)) = refl
      item_gives (By i n) (done instance) = refl
      item_gives (By i n) (bad instance kind) = refl

      pub item_grows : (by : Producer) → Grows (environment_item address value by) (item address value by ∷ []) h (with_item h address value by)
      item_grows by = grows (with_item h address value by) (item_says address value by none) (item_gives by) refl

    module _ (name : Tag) (none : get h.tags (tag_place name) ≡ None) where
      tag_says : (mark : Bool) (fact : Fact) → said (with_tag h name mark) fact ≡ (said h fact || among (tag name ∷ []) fact)
      tag_says mark (tag b) = ap is_some (more_at h.tags (tag_place name) mark (tag_place b)) ∙ some_more (is_eq (tag_cmp name b)) mark (get h.tags (tag_place b))
      tag_says mark (item b w q) = or_false _
      tag_says mark (done instance) = or_false _
      tag_says mark (bad instance kind) = or_false _

      mark_there : (mark : Bool) (b : Tag) → unwrap_or (get (with_tag h name mark).tags (tag_place b)) false ≡ (unwrap_or (get h.tags (tag_place b)) false || ((is_eq (tag_cmp name b) && mark) || false))
      mark_there mark b =
          ap (λ (o : Option Bool). unwrap_or o false) (more_at h.tags (tag_place name) mark (tag_place b))
          ∙ mark_more (is_eq (tag_cmp name b)) mark (get h.tags (tag_place b)) (none_at h.tags (tag_place name) (tag_place b) none)

      and_true : (a : Bool) → (a && true) ≡ a
      and_true true = refl
      and_true false = refl

      and_false : (a : Bool) → ((a && false) || false) ≡ false
      and_false true = refl
      and_false false = refl

      tag_gives : (mark : Bool) (fact : Fact) → given h.items (with_tag h name mark).tags fact ≡ (given h.items h.tags fact || among (environment_tag (name, mark)) fact)
      tag_gives true (tag b) = mark_there true b ∙ ap (λ c. unwrap_or (get h.tags (tag_place b)) false || (c || false)) (and_true (is_eq (tag_cmp name b)))
      tag_gives false (tag b) = mark_there false b ∙ ap (λ c. unwrap_or (get h.tags (tag_place b)) false || c) (and_false (is_eq (tag_cmp name b)))
      tag_gives true (item b w Env) = or_false _
      tag_gives false (item b w Env) = or_false _
      tag_gives true (item b w (By instance number)) = refl
      tag_gives false (item b w (By instance number)) = refl
      tag_gives true (done instance) = refl
      tag_gives false (done instance) = refl
      tag_gives true (bad instance kind) = refl
      tag_gives false (bad instance kind) = refl

      pub tag_grows : (mark : Bool) → Grows (environment_tag (name, mark)) (tag name ∷ []) h (with_tag h name mark)
      tag_grows mark = grows (with_tag h name mark) (tag_says mark) (tag_gives mark) refl

    done_grows : (instance : Inst) → Grows [] (done instance ∷ []) h (with_done h instance)
    done_grows instance = grows (with_done h instance) says (λ fact. or_false _) refl
      where
        says : (fact : Fact) → said (with_done h instance) fact ≡ (said h fact || among (done instance ∷ []) fact)
        says (tag name) = or_false _
        says (item b w q) = or_false _
        says (done other) =
            ap is_some (more_at h.done (inst_place instance) tt (inst_place other)) ∙ some_more (eq_by_cmp place_cmp (inst_place instance) (inst_place other)) tt (get h.done (inst_place other))
        says (bad other kind) = or_false _

    -- an instance is ended, whether it was done or not
    pub end_grows : OneFact → (instance : Inst) (new : Holdings) (fresh : Bool) → IsTrue fresh ↔ (get h.done (inst_place instance) ≡ None) → (IsTrue fresh → new ≡ with_done h instance) → (fresh ≡ false → new ≡ h)
        → Grows [] (done instance ∷ []) h new
    end_grows told instance new true absent ended there = subst (Grows [] (done instance ∷ []) h) (sym (ended refl)) (done_grows instance)
    end_grows told instance new false absent ended there =
        subst (Grows [] (done instance ∷ []) h) (sym (there refl))
        (held_grows told (done instance) (facts_said maps ends rest h (done instance) ∙ there_already (get h.done (inst_place instance)) false absent refl))

-- ---- the numbers of puts

pub item_numbered : (h : Holdings) (address : Addr) (value : ℤ) (by : Producer) → AllByRecursion HasPutNumber (image_of h).items → IsNumbered by
    → AllByRecursion HasPutNumber (image_of (with_item h address value by)).items
item_numbered h address value by all here =
    (each_item HasPutNumber (with_item h address value by).items).1 (λ k x is. at (eq_by_cmp place_cmp (place address) k) x (sym (more_at h.items (place address) (value, by) k) ∙ is)
    ((each_item HasPutNumber h.items).0 all k x))
  where
    at : {there : Option Entry} (b : Bool) (x : Entry) → cond b (Some (value, by)) there ≡ Some x → (there ≡ Some x → IsNumbered x.1) → IsNumbered x.1
    at true x is later = subst (λ (e : Entry). IsNumbered e.1) (same_value (value, by) x is) here
    at false x is later = later is
