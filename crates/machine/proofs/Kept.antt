-- What holds of the facts after a legal list, one event after another.
use Rattle.std.proofs.Common.{◌≡◌, ℕ, ℤ, true, List, [], ◌∷◌, ◌++◌, inl, inr, sym, subst, ◌∙◌}
use Rattle.std.proofs.lemmas.Bool.{false≢true}
use Rattle.std.proofs.lemmas.List.{append_assoc, append-nil}
use Rattle.terms.specs.declared.name.Addr.{Addr}
use Rattle.terms.specs.declared.name.Inst.{Inst}
use Rattle.terms.specs.declared.producer.Producer.{Producer}
use Rattle.terms.specs.declared.producer.Producer.TheVariants.{Env, By}
use Rattle.terms.specs.declared.put.Put.{Put}
use Rattle.terms.specs.declared.event.Event.{Event}
use Rattle.terms.specs.declared.event.Event.TheVariants.{EnvItem, EnvTag, Done, Stopped}
use Rattle.terms.specs.Facts.{Fact, tag, item, done, bad, facts, event_facts, put_facts}
use Rattle.terms.specs.Sets.{Facts, among, OneFact, AmongBoth}
use Rattle.graph.specs.Graph.{Graph}
use Rattle.graph.specs.Fits.{addresses, IsTwiceIn, IsAbsent, AreNew, HasOneItemEach}
use Rattle.machine.specs.Meaning.{BodyGives}
use Rattle.machine.specs.Legal.{IsLegal, AreLegal}
use Rattle.machine.proofs.Sets.{Within, of_list, of_both, in_one, in_two, not_both, the_first, behind_first}
use Rattle.machine.proofs.Grown.{gives_within}
use Rattle.machine.proofs.PutFacts.{item_is_put, one_item_each, no_done}

-- a done instance gave puts, and they are there
pub record Gave (g : Graph) (X : Facts) (instance : Inst) : Type 0 where
  pub puts : List Put
  pub gives : BodyGives g X instance puts
  pub there : Within (among (put_facts instance 0 puts)) X
  pub distinct : (address : Addr) → IsTwiceIn address (addresses puts) → ⊥

abbrev pub ProducersAreDone : Facts → Type 0
ProducersAreDone X = (address : Addr) (value : ℤ) (instance : Inst) (number : ℕ) → X (item address value (By instance number)) ≡ true → X (done instance) ≡ true

pub record Kept (g : Graph) (X : Facts) : Type 0 where
  pub one_item : HasOneItemEach X
  pub producers : ProducersAreDone X
  pub gave : (instance : Inst) → X (done instance) ≡ true → Gave g X instance

pub kept_nothing : (g : Graph) → Kept g (among [])
kept_nothing g = record {
  one_item = λ address v w p q one two. absurd (false≢true one);
  producers = λ address value instance number there. there;
  gave = λ instance there. absurd (false≢true there);
}

gave_within : (g : Graph) (X Y : Facts) → Within X Y → (instance : Inst) → Gave g X instance → Gave g Y instance
gave_within g X Y within instance it = record {
  puts = it.puts;
  gives = gives_within g X Y within instance it.puts it.gives;
  there = λ fact holds. within fact (it.there fact holds);
  distinct = it.distinct;
}

-- the items of these facts are at addresses where the set has none, and no two of them are at one address
pub record AddsItems (X : Facts) (more : List Fact) : Type 0 where
  pub new : (address : Addr) (value : ℤ) (by : Producer) → among more (item address value by) ≡ true → IsAbsent X address
  pub each : HasOneItemEach (among more)

module _ (told : OneFact) (both : AmongBoth) where
  pub one_item_more : (before more : List Fact) → AddsItems (among before) more → HasOneItemEach (among before) → HasOneItemEach (among (before ++ more))
  one_item_more before more adds old address v w p q one two =
      elim (of_both both before more (item address v p) one) [
        | inl first ↦ elim (of_both both before more (item address w q) two) [
          | inl second ↦ old address v w p q first second
          | inr second ↦ not_both (among before (item address v p)) first (adds.new address w q second v p)
        ]
        | inr first ↦ elim (of_both both before more (item address w q) two) [
          | inl second ↦ not_both (among before (item address w q)) second (adds.new address v p first w q)
          | inr second ↦ adds.each address v w p q first second
        ]
      ]

  pub only : (one : Fact) (fact : Fact) → among (one ∷ []) fact ≡ true → one ≡ fact
  only one fact holds = elim (of_list told one [] fact holds) [ inl same ↦ same | inr none ↦ absurd (false≢true none) ]

  pub adds_no_item : (X : Facts) (one : Fact) → ((address : Addr) (value : ℤ) (by : Producer) → one ≡ item address value by → ⊥) → AddsItems X (one ∷ [])
  adds_no_item X one no_item = record {
    new = λ address value by there. absurd (no_item address value by (only one (item address value by) there));
    each = λ address v w p q first second. absurd (no_item address v p (only one (item address v p) first));
  }

  -- an item of the environment
  module _ (X : Facts) (address : Addr) (value : ℤ) (absent : IsAbsent X address) where
    abbrev it : Fact
    it = item address value Env

    its_address : (other : Addr) (w : ℤ) (by : Producer) → it ≡ item other w by → address ≡ other
    its_address other w by same = cc

    its_value : (other : Addr) (w : ℤ) (by : Producer) → it ≡ item other w by → value ≡ w
    its_value other w by same = cc

    its_producer : (other : Addr) (w : ℤ) (by : Producer) → it ≡ item other w by → Env ≡ by
    its_producer other w by same = cc

    pub adds_item : AddsItems X (it ∷ [])
    adds_item = record {
      new = λ other w by there. subst (λ (a : Addr). IsAbsent X a) (its_address other w by (only it (item other w by) there)) absent;
      each = λ other v w p q first second. (
        sym (its_value other v p (only it (item other v p) first)) ∙ its_value other w q (only it (item other w q) second),
        sym (its_producer other v p (only it (item other v p) first)) ∙ its_producer other w q (only it (item other w q) second),
      );
    }

  -- an instance that is done, with its puts
  module _ (X : Facts) (instance : Inst) (puts : List Put) (new : AreNew X puts) where
    abbrev its : List Fact
    its = done instance ∷ put_facts instance 0 puts

    -- an item of these facts is one of the puts
    pub of_puts : (address : Addr) (value : ℤ) (by : Producer) → among its (item address value by) ≡ true → among (put_facts instance 0 puts) (item address value by) ≡ true
    of_puts address value by there =
        elim (of_list told (done instance) (put_facts instance 0 puts) (item address value by) there) [ inl same ↦ absurd (cc) | inr one ↦ one ]

    pub adds_puts : AddsItems X its
    adds_puts = record {
      new = λ address value by there. new.absent address (item_is_put told instance 0 puts address value by (of_puts address value by there)).0;
      each = λ address v w p q one two. one_item_each told instance 0 puts new.distinct address v w p q (of_puts address v p one) (of_puts address w q two);
    }

    -- the instance that put one of them is done
    pub its_producers : ProducersAreDone (among its)
    its_producers address value other number there =
        let one = item_is_put told instance 0 puts address value (By other number) (of_puts address value (By other number) there) in
        let same : other ≡ instance = one_instance other number one.1.0 one.1.1 in
        subst (λ (i : Inst). among its (done i) ≡ true) (sym same) (the_first told (done instance) (put_facts instance 0 puts))
      where
        one_instance : (other : Inst) (m n : ℕ) → By other m ≡ By instance n → other ≡ instance
        one_instance other m n same = cc

  -- facts like these, added to others, keep all three
  module _ (g : Graph) (before more : List Fact) (kept : Kept g (among before)) (adds : AddsItems (among before) more) (producers : ProducersAreDone (among more))
      (gave : (instance : Inst) → among more (done instance) ≡ true → Gave g (among (before ++ more)) instance) where
    producers_more : ProducersAreDone (among (before ++ more))
    producers_more address value instance number there =
        elim (of_both both before more (item address value (By instance number)) there) [
          | inl old ↦ in_one both before more (done instance) (kept.producers address value instance number old)
          | inr it ↦ in_two both before more (done instance) (producers address value instance number it)
        ]

    gave_more : (instance : Inst) → among (before ++ more) (done instance) ≡ true → Gave g (among (before ++ more)) instance
    gave_more instance there =
        elim (of_both both before more (done instance) there) [
          | inl old ↦ gave_within g (among before) (among (before ++ more)) (in_one both before more) instance (kept.gave instance old)
          | inr it ↦ gave instance it
        ]

    kept_more : Kept g (among (before ++ more))
    kept_more = record { one_item = one_item_more before more adds kept.one_item; producers = producers_more; gave = gave_more }

  -- one fact that is neither an item nor a done instance
  module _ (g : Graph) (before : List Fact) (one : Fact) (kept : Kept g (among before))
      (no_item : (address : Addr) (value : ℤ) (by : Producer) → one ≡ item address value by → ⊥) (not_done : (instance : Inst) → one ≡ done instance → ⊥) where
    kept_other : Kept g (among (before ++ one ∷ []))
    kept_other = kept_more g before (one ∷ []) kept (adds_no_item (among before) one no_item)
        (λ address value instance number there. absurd (no_item address value (By instance number) (only one (item address value (By instance number)) there)))
        (λ instance there. absurd (not_done instance (only one (done instance) there)))

  -- an item of the environment
  kept_item : (g : Graph) (before : List Fact) (address : Addr) (value : ℤ) → Kept g (among before) → IsAbsent (among before) address → Kept g (among (before ++ item address value Env ∷ []))
  kept_item g before address value kept absent = kept_more g before (item address value Env ∷ []) kept (adds_item (among before) address value absent)
      (λ other w instance number there. absurd (not_by other w instance number (only (item address value Env) (item other w (By instance number)) there)))
      (λ instance there. absurd (not_done instance (only (item address value Env) (done instance) there)))
    where
      not_by : (other : Addr) (w : ℤ) (instance : Inst) (number : ℕ) → item address value Env ≡ item other w (By instance number) → ⊥
      not_by other w instance number same = cc

      not_done : (instance : Inst) → item address value Env ≡ done instance → ⊥
      not_done instance same = cc

  -- an instance that is done
  module _ (g : Graph) (before : List Fact) (instance : Inst) (puts : List Put) (kept : Kept g (among before)) (gives : BodyGives g (among before) instance puts) (new : AreNew (among before) puts) where
    abbrev of_it : List Fact
    of_it = done instance ∷ put_facts instance 0 puts

    its_gave : (other : Inst) → among of_it (done other) ≡ true → Gave g (among (before ++ of_it)) other
    its_gave other there =
        elim (of_list told (done instance) (put_facts instance 0 puts) (done other) there) [
          | inl same ↦ subst (λ (i : Inst). Gave g (among (before ++ of_it)) i) (one_instance same) gave
          | inr it ↦ absurd (no_done told instance 0 puts other it)
        ]
      where
        one_instance : done instance ≡ done other → instance ≡ other
        one_instance same = cc

        gave : Gave g (among (before ++ of_it)) instance
        gave = record {
          puts = puts;
          gives = gives_within g (among before) (among (before ++ of_it)) (in_one both before of_it) instance puts gives;
          there = λ fact holds. in_two both before of_it fact (behind_first told (done instance) (put_facts instance 0 puts) fact holds);
          distinct = new.distinct;
        }

    kept_done : Kept g (among (before ++ of_it))
    kept_done = kept_more g before of_it kept (adds_puts (among before) instance puts new) (its_producers (among before) instance puts new) its_gave

  pub kept_event : (g : Graph) (before : List Fact) (event : Event) → Kept g (among before) → IsLegal g (among before) event → Kept g (among (before ++ event_facts event))
  kept_event g before (EnvItem address value) kept legal = kept_item g before address value kept legal.event_is_legal.1
  kept_event g before (EnvTag name) kept legal = kept_other g before (tag name) kept (λ address value by same. cc) (λ instance same. cc)
  kept_event g before (Done instance puts) kept legal = kept_done g before instance puts kept legal.event_is_legal.2 legal.event_is_legal.3
  kept_event g before (Stopped instance kind) kept legal = kept_other g before (bad instance kind) kept (λ address value by same. cc) (λ other same. cc)

  -- and the same after a whole list
  pub kept_list : (g : Graph) (before : List Fact) (events : List Event) → Kept g (among before) → AreLegal g before events → Kept g (among (before ++ facts events))
  kept_list g before [] kept legal = subst (λ (list : List Fact). Kept g (among list)) (sym (append-nil before)) kept
  kept_list g before (event ∷ events) kept legal =
      subst (λ (list : List Fact). Kept g (among list)) (append_assoc before (event_facts event) (facts events))
      (kept_list g (before ++ event_facts event) events (kept_event g before event kept legal.0) legal.1)
