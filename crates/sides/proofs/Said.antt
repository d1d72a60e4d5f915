-- What is held says of each fact, and of each fact of the environment, by its finite maps.
use Rattle.std.proofs.Common.{◌≡◌, ◌↔◌, ℤ, Bool, true, false, ◌&&◌, Option, Some, None, is_some, refl, sym, ap, ◌∙◌}
use Rattle.std.proofs.lemmas.Bool.{false≢true}
use Rattle.std.specs.FinMap.{FinMap, get}
use Rattle.std.specs.Option.{unwrap_or}
use Rattle.terms.specs.declared.name.Addr.{Addr}
use Rattle.terms.specs.declared.name.Tag.{Tag}
use Rattle.terms.specs.declared.name.Inst.{Inst}
use Rattle.terms.specs.declared.fault.FaultKind.{FaultKind}
use Rattle.terms.specs.declared.producer.Producer.{Producer}
use Rattle.terms.specs.declared.producer.Producer.TheVariants.{Env, By}
use Rattle.terms.specs.Facts.{Fact, tag, item, done, bad}
use Rattle.terms.specs.Same.{same_itself}
use Rattle.terms.specs.Sets.{Facts, OneFact}
use Rattle.codec.specs.declared.image.Image.{Image}
use Rattle.codec.specs.Image.{facts_in, environment_in}
use Rattle.maps.specs.Numbered.{place_cmp}
use Rattle.items.specs.Held.{place}
use Rattle.instances.specs.Known.{inst_place, tag_place}
use Rattle.graph.specs.Fits.{IsAbsent, HasOneItemEach}
use Rattle.holdings.specs.Holdings.{Holdings, image_of}
use Rattle.holdings.specs.ImageLaws.{ImagesTell, DoneTell, TellsRest, is_item, is_fault}
use Rattle.sides.proofs.Entries.{same_value}

-- the facts that are held, and those of the environment
abbrev pub said : Holdings → Facts
said h (tag name) = is_some (get h.tags (tag_place name))
said h (item address value by) = is_item (get h.items (place address)) value by
said h (done instance) = is_some (get h.done (inst_place instance))
said h (bad instance kind) = is_fault h.fault instance kind

abbrev pub given : FinMap place_cmp (ℤ × Producer) → FinMap place_cmp Bool → Facts
given items tags (tag name) = unwrap_or (get tags (tag_place name)) false
given items tags (item address value Env) = is_item (get items (place address)) value Env
given items tags fact = false

-- ---- what is said

module _ (told : OneFact) where
  pub itself : (address : Addr) (value : ℤ) (by : Producer) → is_item (Some (value, by)) value by ≡ true
  itself address value by = ap (λ b. b && is_item (Some (value, by)) value by) (sym (same_itself address)) ∙ (told (item address value by) (item address value by)).0

  pub the_item : (address : Addr) (o : Option (ℤ × Producer)) (value : ℤ) (by : Producer) → is_item o value by ≡ true → o ≡ Some (value, by)
  the_item address None value by is = absurd (false≢true is)
  the_item address (Some there) value by is =
      same there.0 there.1 ((told (item address there.0 there.1) (item address value by)).1 (ap (λ b. b && is_item (Some there) value by) (same_itself address) ∙ is))
    where
      same : (w : ℤ) (q : Producer) → item address w q ≡ item address value by → ◌≡◌ {A = Option (ℤ × Producer)} (Some (w, q)) (Some (value, by))
      same w q is = cc

  pub the_fault : (o : Option (Inst × FaultKind)) (instance : Inst) (kind : FaultKind) → is_fault o instance kind ≡ true → o ≡ Some (instance, kind)
  the_fault None instance kind is = absurd (false≢true is)
  the_fault (Some there) instance kind is = same there.0 there.1 ((told (bad there.0 there.1) (bad instance kind)).1 is)
    where
      same : (i : Inst) (k : FaultKind) → bad i k ≡ bad instance kind → ◌≡◌ {A = Option (Inst × FaultKind)} (Some (i, k)) (Some (instance, kind))
      same i k is = cc

module _ (maps : ImagesTell) (ended : DoneTell) (rest : (image : Image) → TellsRest image) where
  pub facts_said : (h : Holdings) (fact : Fact) → facts_in (image_of h) fact ≡ said h fact
  facts_said h (tag name) = (maps (image_of h) h.items h.tags refl refl).of_tags name
  facts_said h (item address value by) = (maps (image_of h) h.items h.tags refl refl).of_items address value by
  facts_said h (done instance) = (ended (image_of h) h.done refl).of_done instance
  facts_said h (bad instance kind) = (rest (image_of h)).of_fault instance kind

  pub facts_given : (h : Holdings) (fact : Fact) → environment_in (image_of h) fact ≡ given h.items h.tags fact
  facts_given h (tag name) = (maps (image_of h) h.items h.tags refl refl).given_tags name
  facts_given h (item address value Env) = (maps (image_of h) h.items h.tags refl refl).given_items address value
  facts_given h (item address value (By instance number)) = (rest (image_of h)).given_by address value instance number
  facts_given h (done instance) = (rest (image_of h)).given_done instance
  facts_given h (bad instance kind) = (rest (image_of h)).given_fault instance kind

  -- a tag is absent if the map has none
  pub tag_absent : (h : Holdings) (name : Tag) → (get h.tags (tag_place name) ≡ None) ↔ (facts_in (image_of h) (tag name) ≡ false)
  tag_absent h name = (λ none. facts_said h (tag name) ∙ ap is_some none, λ absent. at (get h.tags (tag_place name)) (sym (facts_said h (tag name)) ∙ absent))
    where
      at : (o : Option Bool) → is_some o ≡ false → o ≡ None
      at None absent = refl
      at (Some mark) absent = absurd (false≢true (sym absent))

  module _ (told : OneFact) (h : Holdings) where
    abbrev X : Facts
    X = facts_in (image_of h)

    -- an item that is held is the one that its map has
    pub item_there : (address : Addr) (value : ℤ) (by : Producer) → X (item address value by) ≡ true → get h.items (place address) ≡ Some (value, by)
    item_there address value by holds = the_item told address (get h.items (place address)) value by (sym (facts_said h (item address value by)) ∙ holds)

    -- an address is free if the map has none there
    pub absent_at : (address : Addr) → (get h.items (place address) ≡ None) ↔ IsAbsent X address
    absent_at address = (λ none value by. facts_said h (item address value by) ∙ ap (λ o. is_item o value by) none, λ absent. at (get h.items (place address)) (λ value by. sym (facts_said h (item address value by)) ∙ absent value by))
      where
        at : (o : Option (ℤ × Producer)) → ((value : ℤ) (by : Producer) → is_item o value by ≡ false) → o ≡ None
        at None absent = refl
        at (Some there) absent = absurd (false≢true (sym (absent there.0 there.1) ∙ itself told address there.0 there.1))

    -- no two items are at one address
    pub one_item : HasOneItemEach X
    one_item address v w p q one two =
        let same = same_value (v, p) (w, q) (sym (item_there address v p one) ∙ item_there address w q two) in
        (ap (λ (e : ℤ × Producer). e.0) same, ap (λ (e : ℤ × Producer). e.1) same)
