-- Bodies over more items, and over items of which each address has at most one.
use Rattle.std.proofs.Common.{◌≡◌, ◌≢◌, ◌⊎◌, ℤ, Bool, true, false, List, [], ◌∷◌, Option, Some, None, if◌then◌else◌, inl, inr, refl, sym, subst, ◌∙◌}
use Rattle.std.proofs.lemmas.Bool.{false≢true}
use Rattle.std.specs.List.{AllByRecursion}
use Rattle.terms.specs.declared.name.Addr.{Addr}
use Rattle.terms.specs.declared.name.Inst.{Inst}
use Rattle.terms.specs.declared.fault.FaultKind.{FaultKind}
use Rattle.terms.specs.declared.producer.Producer.{Producer}
use Rattle.terms.specs.declared.put.Put.{Put}
use Rattle.terms.specs.Facts.{Fact, tag, item, done, bad}
use Rattle.terms.specs.Same.{is_same, same_itself, same_address}
use Rattle.terms.specs.Sets.{Facts, among, OneFact}
use Rattle.steptree.specs.declared.body.Body.{Body}
use Rattle.steptree.specs.Run.{Read}
use Rattle.steptree.specs.Bodies.{Ending, Gives, Faults, Asks, Means}
use Rattle.steptree.specs.Laws.{Found, LookUpEnds, LookUpEndsOnce, means_grows}
use Rattle.graph.specs.Graph.{Graph, Step, IsStep, BodyMeans}
use Rattle.graph.specs.Fits.{IsPrescribed, HasOneItemEach}
use Rattle.machine.specs.Meaning.{items, BodyGives, BodyFaults}
use Rattle.machine.proofs.Sets.{Within, of_list, the_first, behind_first}

pub prescribed_within : (g : Graph) (X Y : Facts) → Within X Y → (instance : Inst) → IsPrescribed g X instance → IsPrescribed g Y instance
prescribed_within g X Y within instance prescribed = (prescribed.0, within (tag prescribed.0) prescribed.1, prescribed.2)

items_within : (X Y : Facts) → Within X Y → (address : Addr) (value : ℤ) → items X address value → items Y address value
items_within X Y within address value there = (there.0, within (item address value there.0) there.1)

-- what a body gives over a set, and its faults, stay the same over a larger set
pub means_within : (g : Graph) (X Y : Facts) → Within X Y → (instance : Inst) (ending : Ending) → ((address : Addr) → ending ≢ Asks address)
    → BodyMeans g instance (items X) ending → BodyMeans g instance (items Y) ending
means_within g X Y within instance ending final means = record {
  step = means.step;
  is_step = means.is_step;
  means = means_grows means.step.body instance.key (items X) (items Y) ending (items_within X Y within) final means.means;
}

pub gives_within : (g : Graph) (X Y : Facts) → Within X Y → (instance : Inst) (puts : List Put) → BodyGives g X instance puts → BodyGives g Y instance puts
gives_within g X Y within instance puts = means_within g X Y within instance (Gives puts) (λ address same. cc)

pub faults_within : (g : Graph) (X Y : Facts) → Within X Y → (instance : Inst) (kind : FaultKind) → BodyFaults g X instance kind → BodyFaults g Y instance kind
faults_within g X Y within instance kind = means_within g X Y within instance (Faults kind) (λ address same. cc)

-- ---- at most one item at each address

-- the value of the first item at an address
abbrev value_at : Addr → Fact → Option ℤ → Option ℤ
value_at address (tag name) rest = rest
value_at address (item other value by) rest = if is_same other address then Some value else rest
value_at address (done instance) rest = rest
value_at address (bad instance kind) rest = rest

abbrev look : List Fact → Addr → Option ℤ
look [] address = None
look (first ∷ rest) address = value_at address first (look rest address)

choose_true : {X : Type 0} (b : Bool) (x y : X) → b ≡ true → (if b then x else y) ≡ x
choose_true b x y holds = cc

choose : {X : Type 0} (b : Bool) (x y z : X) → (if b then x else y) ≡ z → ((b ≡ true) × (x ≡ z)) ⊎ (y ≡ z)
choose true x y z same = inl (refl, same)
choose false x y z same = inr same

-- what the lookup finds is an item
module _ (told : OneFact) where
  pub found_is_item : (list : List Fact) (address : Addr) (value : ℤ) → Found (look list) address value → items (among list) address value
  found_is_item [] address value found = absurd (cc)
  found_is_item (tag name ∷ rest) address value found =
      let it = found_is_item rest address value found in (it.0, behind_first told (tag name) rest (item address value it.0) it.1)
  found_is_item (item other other_value by ∷ rest) address value found =
      elim (choose (is_same other address) (Some other_value) (look rest address) (Some value) found) [
        | inl here ↦ (by, first_is other other_value by rest address value here.0 here.1)
        | inr later ↦ (let it = found_is_item rest address value later in (it.0, behind_first told (item other other_value by) rest (item address value it.0) it.1))
      ]
    where
      first_is : (other : Addr) (other_value : ℤ) (by : Producer) (rest : List Fact) (address : Addr) (value : ℤ) → is_same other address ≡ true → Some other_value ≡ Some value
          → among (item other other_value by ∷ rest) (item address value by) ≡ true
      first_is other other_value by rest address value same values =
          let one = same_address other address same in
          let two : other_value ≡ value = cc in
          subst (λ (f : Fact). among (item other other_value by ∷ rest) f ≡ true) (λ i. item (one i) (two i) by) (the_first told (item other other_value by) rest)
  found_is_item (done instance ∷ rest) address value found =
      let it = found_is_item rest address value found in (it.0, behind_first told (done instance) rest (item address value it.0) it.1)
  found_is_item (bad instance kind ∷ rest) address value found =
      let it = found_is_item rest address value found in (it.0, behind_first told (bad instance kind) rest (item address value it.0) it.1)

  some_rest : (first : Fact) (rest : List Fact) (address : Addr) (value : ℤ) (by : Producer) → (first ≡ item address value by → ⊥) → among (first ∷ rest) (item address value by) ≡ true
      → items (among rest) address value
  some_rest first rest address value by other there =
      elim (of_list told first rest (item address value by) there) [ inl same ↦ absurd (other same) | inr it ↦ (by, it) ]

  chosen : (b : Bool) (u : ℤ) (rest : Option ℤ) → (b ≡ true) ⊎ ((w : ℤ) × (rest ≡ Some w)) → (w : ℤ) × ((if b then Some u else rest) ≡ Some w)
  chosen true u rest found = (u, refl)
  chosen false u rest (inl yes_) = absurd (false≢true yes_)
  chosen false u rest (inr it) = it

  -- at the address of an item something is found
  item_is_found : (list : List Fact) (address : Addr) (value : ℤ) → items (among list) address value → (w : ℤ) × Found (look list) address w
  item_is_found [] address value there = absurd (false≢true there.1)
  item_is_found (tag name ∷ rest) address value there = item_is_found rest address value (some_rest (tag name) rest address value there.0 (λ same. cc) there.1)
  item_is_found (done instance ∷ rest) address value there = item_is_found rest address value (some_rest (done instance) rest address value there.0 (λ same. cc) there.1)
  item_is_found (bad instance kind ∷ rest) address value there = item_is_found rest address value (some_rest (bad instance kind) rest address value there.0 (λ same. cc) there.1)
  item_is_found (item other u by ∷ rest) address value there =
      chosen (is_same other address) u (look rest address)
      (elim (of_list told (item other u by) rest (item address value there.0) there.1) [
        | inl same ↦ inl (subst (λ (a : Addr). is_same other a ≡ true) (one_address same) (same_itself other))
        | inr later ↦ inr (item_is_found rest address value (there.0, later))
      ])
    where
      one_address : item other u by ≡ item address value there.0 → other ≡ address
      one_address same = cc

  module _ (list : List Fact) (each : HasOneItemEach (among list)) where
    is_found : (address : Addr) (value : ℤ) → items (among list) address value → Found (look list) address value
    is_found address value there =
        let found = item_is_found list address value there in
        let back = found_is_item list address found.0 found.1 in
        subst (λ (v : ℤ). Found (look list) address v) (each address found.0 value back.0 there.0 back.1 there.1).0 found.1

    -- over the items a body ends in one way
    pub one_ending : LookUpEndsOnce → (g : Graph) (instance : Inst) (one two : Ending) → BodyMeans g instance (items (among list)) one → BodyMeans g instance (items (among list)) two → one ≡ two
    one_ending once g instance one two first second =
        let same : first.step ≡ second.step = same_step (sym first.is_step ∙ second.is_step) in
        let here : Means second.step.body instance.key (items (among list)) one =
        subst (λ (step : Step). Means step.body instance.key (items (among list)) one) same first.means in
        once second.step.body instance.key (look list) one two (moved second.step.body one here) (moved second.step.body two second.means)
      where
        same_step : {a b : Step} → Some a ≡ Some b → a ≡ b
        same_step same = cc

        each_moved : (reads : List Read) → AllByRecursion (λ read. items (among list) read.0 read.1) reads → AllByRecursion (λ read. Found (look list) read.0 read.1) reads
        each_moved [] all = tt
        each_moved (read ∷ reads) all = (is_found read.0 read.1 all.0, each_moved reads all.1)

        moved : (body : Body) (ending : Ending) → Means body instance.key (items (among list)) ending → Means body instance.key (Found (look list)) ending
        moved body ending means = record {
          reads = means.reads;
          among = each_moved means.reads means.among;
          along = means.along;
          needs = λ address asks value found. means.needs address asks value (found_is_item list address value found);
        }

    -- and it ends in some way
    pub some_ending : LookUpEnds → (g : Graph) (instance : Inst) (step : Step) → IsStep g instance.collection.0 step → (ending : Ending) × BodyMeans g instance (items (among list)) ending
    some_ending ends g instance step is_step =
        let it = ends step.body instance.key (look list) in (
          it.0,
          record {
            step = step;
            is_step = is_step;
            means = record {
              reads = it.1.reads;
              among = each_back it.1.reads it.1.among;
              along = it.1.along;
              needs = λ address asks value there. it.1.needs address asks value (is_found address value there);
            };
          },
        )
      where
        each_back : (reads : List Read) → AllByRecursion (λ read. Found (look list) read.0 read.1) reads → AllByRecursion (λ read. items (among list) read.0 read.1) reads
        each_back [] all = tt
        each_back (read ∷ reads) all = (found_is_item list read.0 read.1 all.0, each_back reads all.1)
