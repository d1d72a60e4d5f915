-- What an image says about a fact, by the kind of the fact.
use Rattle.std.proofs.Common.{◌≡◌, ◌∙◌, ap, refl, ℕ, ℤ, Bool, true, false, ◌&&◌, ◌||◌, List, [], ◌∷◌, ◌++◌, map, Option, Some, None}
use Rattle.std.specs.List.{flat_map}
use Rattle.std.specs.Ordering.{int_eq}
use Rattle.terms.specs.declared.name.Addr.{Addr}
use Rattle.terms.specs.declared.name.Tag.{Tag}
use Rattle.terms.specs.declared.name.Inst.{Inst}
use Rattle.terms.specs.declared.fault.FaultKind.{FaultKind}
use Rattle.terms.specs.declared.producer.Producer.{Producer}
use Rattle.terms.specs.declared.producer.Producer.TheVariants.{Env, By}
use Rattle.terms.specs.Same.{is_same}
use Rattle.terms.specs.Facts.{Fact, tag, item, done, bad}
use Rattle.terms.specs.Sets.{is_fact, among, AmongBoth}
use Rattle.codec.specs.declared.image.Image.{Image}
use Rattle.codec.specs.Entries.{Item, MarkedTag}
use Rattle.codec.specs.Image.{fault_facts, environment_item, environment_tag, environment_in, facts_in}
use Rattle.holdings.specs.ImageLaws.{is_fault}

pub or_false : (b : Bool) → (b || false) ≡ b
or_false true = refl
or_false false = refl

abbrev pub item_fact : Item → Fact
item_fact it = item it.0 it.1 it.2

abbrev pub tag_fact : MarkedTag → Fact
tag_fact marked = tag marked.0

abbrev pub given_item : Item → List Fact
given_item it = environment_item it.0 it.1 it.2

-- if no element states the fact, the list does not
none_of : {X : Type 0} (f : X → Fact) (fact : Fact) → ((x : X) → is_fact (f x) fact ≡ false) → (xs : List X) → among (map f xs) fact ≡ false
none_of f fact none [] = refl
none_of f fact none (x ∷ xs) = ap (λ b. b || among (map f xs) fact) (none x) ∙ none_of f fact none xs

first_only : (a b c d : Bool) → b ≡ false → c ≡ false → d ≡ false → (((a || b) || c) || d) ≡ a
first_only a b c d nb nc nd = ap (λ x. ((a || x) || c) || d) nb ∙ ap (λ x. ((a || false) || x) || d) nc ∙ ap (λ x. ((a || false) || false) || x) nd ∙ or_false _ ∙ or_false _ ∙ or_false a

second_only : (a b c d : Bool) → a ≡ false → c ≡ false → d ≡ false → (((a || b) || c) || d) ≡ b
second_only a b c d na nc nd = ap (λ x. ((x || b) || c) || d) na ∙ ap (λ x. (b || x) || d) nc ∙ ap (λ x. (b || false) || x) nd ∙ or_false _ ∙ or_false b

third_only : (a b c d : Bool) → a ≡ false → b ≡ false → d ≡ false → (((a || b) || c) || d) ≡ c
third_only a b c d na nb nd = ap (λ x. ((x || b) || c) || d) na ∙ ap (λ x. (x || c) || d) nb ∙ ap (λ x. c || x) nd ∙ or_false c

fourth_only : (a b c d : Bool) → a ≡ false → b ≡ false → c ≡ false → (((a || b) || c) || d) ≡ d
fourth_only a b c d na nb nc = ap (λ x. ((x || b) || c) || d) na ∙ ap (λ x. (x || c) || d) nb ∙ ap (λ x. x || d) nc

no_fault_tag : (fault : Option (Inst × FaultKind)) (name : Tag) → among (fault_facts fault) (tag name) ≡ false
no_fault_tag None name = refl
no_fault_tag (Some there) name = refl

no_fault_item : (fault : Option (Inst × FaultKind)) (a : Addr) (v : ℤ) (p : Producer) → among (fault_facts fault) (item a v p) ≡ false
no_fault_item None a v p = refl
no_fault_item (Some there) a v p = refl

no_fault_done : (fault : Option (Inst × FaultKind)) (i : Inst) → among (fault_facts fault) (done i) ≡ false
no_fault_done None i = refl
no_fault_done (Some there) i = refl

fault_told : (fault : Option (Inst × FaultKind)) (i : Inst) (kind : FaultKind) → among (fault_facts fault) (bad i kind) ≡ is_fault fault i kind
fault_told None i kind = refl
fault_told (Some there) i kind = or_false (is_fault (Some there) i kind)

never : (a b : Bool) → (a && (b && false)) ≡ false
never true true = refl
never true false = refl
never false b = refl

-- one item says nothing about an item that an instance put
not_by : (it : Item) (a : Addr) (v : ℤ) (i : Inst) (n : ℕ) → among (given_item it) (item a v (By i n)) ≡ false
not_by (b, w, Env) a v i n = or_false _ ∙ never (is_same b a) (int_eq w v)
not_by (b, w, By j m) a v i n = refl

-- about an item of the environment it says whether it is that item
its_own : (it : Item) (a : Addr) (v : ℤ) → among (given_item it) (item a v Env) ≡ is_fact (item_fact it) (item a v Env)
its_own (b, w, Env) a v = or_false _
its_own (b, w, By j m) a v = never_back (is_same b a) (int_eq w v)
  where
    never_back : (x y : Bool) → false ≡ (x && (y && false))
    never_back true true = refl
    never_back true false = refl
    never_back false y = refl

no_tag_item : (marked : MarkedTag) (a : Addr) (v : ℤ) (p : Producer) → among (environment_tag marked) (item a v p) ≡ false
no_tag_item (name, true) a v p = refl
no_tag_item (name, false) a v p = refl

no_tag_done : (marked : MarkedTag) (i : Inst) → among (environment_tag marked) (done i) ≡ false
no_tag_done (name, true) i = refl
no_tag_done (name, false) i = refl

no_tag_bad : (marked : MarkedTag) (i : Inst) (kind : FaultKind) → among (environment_tag marked) (bad i kind) ≡ false
no_tag_bad (name, true) i kind = refl
no_tag_bad (name, false) i kind = refl

no_item_tag : (it : Item) (name : Tag) → among (given_item it) (tag name) ≡ false
no_item_tag (a, v, Env) name = refl
no_item_tag (a, v, By i n) name = refl

no_item_done : (it : Item) (i : Inst) → among (given_item it) (done i) ≡ false
no_item_done (a, v, Env) i = refl
no_item_done (a, v, By j n) i = refl

no_item_bad : (it : Item) (i : Inst) (kind : FaultKind) → among (given_item it) (bad i kind) ≡ false
no_item_bad (a, v, Env) i kind = refl
no_item_bad (a, v, By j n) i kind = refl

module _ (both : AmongBoth) where
  none_given : {X : Type 0} (f : X → List Fact) (fact : Fact) → ((x : X) → among (f x) fact ≡ false) → (xs : List X) → among (flat_map f xs) fact ≡ false
  none_given f fact none [] = refl
  none_given f fact none (x ∷ xs) = both (f x) (flat_map f xs) fact ∙ ap (λ b. b || among (flat_map f xs) fact) (none x) ∙ none_given f fact none xs

  own_items : (a : Addr) (v : ℤ) (list : List Item) → among (flat_map given_item list) (item a v Env) ≡ among (map item_fact list) (item a v Env)
  own_items a v [] = refl
  own_items a v (it ∷ list) =
      both (given_item it) (flat_map given_item list) (item a v Env) ∙ ap (λ b. b || among (flat_map given_item list) (item a v Env)) (its_own it a v)
      ∙ ap (λ b. is_fact (item_fact it) (item a v Env) || b) (own_items a v list)

  module _ (image : Image) where
    split : (fact : Fact) → facts_in image fact ≡ (((among (fault_facts image.fault) fact || among (map item_fact image.items) fact) || among (map tag_fact image.tags) fact) || among (map done image.done) fact)
    split fact =
        both ((fault_facts image.fault ++ map item_fact image.items) ++ map tag_fact image.tags) (map done image.done) fact
        ∙ ap (λ b. b || among (map done image.done) fact) (
        both (fault_facts image.fault ++ map item_fact image.items) (map tag_fact image.tags) fact
        ∙ ap (λ b. b || among (map tag_fact image.tags) fact) (both (fault_facts image.fault) (map item_fact image.items) fact)
        )

    pub facts_tag : (name : Tag) → facts_in image (tag name) ≡ among (map tag_fact image.tags) (tag name)
    facts_tag name = split (tag name) ∙ third_only _ _ _ _ (no_fault_tag image.fault name) (none_of item_fact (tag name) (λ x. refl) image.items) (none_of done (tag name) (λ x. refl) image.done)

    pub facts_item : (a : Addr) (v : ℤ) (p : Producer) → facts_in image (item a v p) ≡ among (map item_fact image.items) (item a v p)
    facts_item a v p =
        split (item a v p)
        ∙ second_only _ _ _ _ (no_fault_item image.fault a v p) (none_of tag_fact (item a v p) (λ x. refl) image.tags) (none_of done (item a v p) (λ x. refl) image.done)

    pub facts_done : (i : Inst) → facts_in image (done i) ≡ among (map done image.done) (done i)
    facts_done i = split (done i) ∙ fourth_only _ _ _ _ (no_fault_done image.fault i) (none_of item_fact (done i) (λ x. refl) image.items) (none_of tag_fact (done i) (λ x. refl) image.tags)

    pub facts_bad : (i : Inst) (kind : FaultKind) → facts_in image (bad i kind) ≡ is_fault image.fault i kind
    facts_bad i kind =
        split (bad i kind)
        ∙ first_only _ _ _ _ (none_of item_fact (bad i kind) (λ x. refl) image.items) (none_of tag_fact (bad i kind) (λ x. refl) image.tags) (none_of done (bad i kind) (λ x. refl) image.done)
        ∙ fault_told image.fault i kind

    given : (fact : Fact) → environment_in image fact ≡ (among (flat_map given_item image.items) fact || among (flat_map environment_tag image.tags) fact)
    given fact = both (flat_map given_item image.items) (flat_map environment_tag image.tags) fact

    neither : (fact : Fact) → among (flat_map given_item image.items) fact ≡ false → among (flat_map environment_tag image.tags) fact ≡ false → environment_in image fact ≡ false
    neither fact one two = given fact ∙ ap (λ b. b || among (flat_map environment_tag image.tags) fact) one ∙ two

    pub given_tag : (name : Tag) → environment_in image (tag name) ≡ among (flat_map environment_tag image.tags) (tag name)
    given_tag name = given (tag name) ∙ ap (λ b. b || among (flat_map environment_tag image.tags) (tag name)) (none_given given_item (tag name) (λ it. no_item_tag it name) image.items)

    pub given_own : (a : Addr) (v : ℤ) → environment_in image (item a v Env) ≡ among (map item_fact image.items) (item a v Env)
    given_own a v =
        given (item a v Env)
        ∙ ap (λ b. among (flat_map given_item image.items) (item a v Env) || b) (none_given environment_tag (item a v Env) (λ marked. no_tag_item marked a v Env) image.tags)
        ∙ or_false _ ∙ own_items a v image.items

    pub given_by : (a : Addr) (v : ℤ) (i : Inst) (n : ℕ) → environment_in image (item a v (By i n)) ≡ false
    given_by a v i n =
        neither (item a v (By i n)) (none_given given_item (item a v (By i n)) (λ it. not_by it a v i n) image.items)
        (none_given environment_tag (item a v (By i n)) (λ marked. no_tag_item marked a v (By i n)) image.tags)

    pub given_done : (i : Inst) → environment_in image (done i) ≡ false
    given_done i = neither (done i) (none_given given_item (done i) (λ it. no_item_done it i) image.items) (none_given environment_tag (done i) (λ marked. no_tag_done marked i) image.tags)

    pub given_bad : (i : Inst) (kind : FaultKind) → environment_in image (bad i kind) ≡ false
    given_bad i kind = neither (bad i kind) (none_given given_item (bad i kind) (λ it. no_item_bad it i kind) image.items) (none_given environment_tag (bad i kind) (λ marked. no_tag_bad marked i kind) image.tags)
