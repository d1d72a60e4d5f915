-- After a legal event, a store holds what a store may hold.
use Rattle.std.proofs.Common.{◌≡◌, ◌∙◌, ap, sym, refl, subst, ℕ, suc, ◌+◌, ◌<◌, ℤ, Bool, true, false, ◌||◌, List, [], ◌∷◌, length, arith}
use Rattle.std.proofs.lemmas.Bool.{false≢true}
use Rattle.terms.specs.declared.name.Addr.{Addr}
use Rattle.terms.specs.declared.name.Inst.{Inst}
use Rattle.terms.specs.declared.producer.Producer.{Producer}
use Rattle.terms.specs.declared.producer.Producer.TheVariants.{Env, By}
use Rattle.terms.specs.declared.put.Put.{Put}
use Rattle.terms.specs.declared.put.TheConstants.{MOST_PUTS}
use Rattle.terms.specs.declared.put.Put.TheVariants as put
use Rattle.terms.specs.declared.event.Event.{Event}
use Rattle.terms.specs.declared.event.Event.TheVariants.{EnvItem, EnvTag, Done, Stopped}
use Rattle.terms.specs.Facts.{Fact, tag, item, event_facts, environment_facts, put_facts}
use Rattle.terms.specs.Sets.{Facts, with_facts, is_fact, among, OneFact}
use Rattle.steptree.specs.Sheet.{KeepsAtAnyReads}
use Rattle.steptree.specs.Laws.{FewPuts}
use Rattle.graph.specs.Graph.{Graph}
use Rattle.graph.specs.Fits.{FitsState}
use Rattle.graph.specs.FitLaws.{StateKeeps}
use Rattle.machine.specs.declared.memory.Memory.{Memory}
use Rattle.machine.specs.Legal.{IsLegal}
use Rattle.machine.specs.StateLaws.{NeedsStays}
use Rattle.holdings.specs.ImageLaws.{is_item}
use Rattle.machine.specs.Memory.{facts_of, environment_of, IsOf, Comes}
use Rattle.machine.proofs.Fit.{event_fits}

either : {A : Type 0} (a b : Bool) → (a || b) ≡ true → (a ≡ true → A) → (b ≡ true → A) → A
either true b is one two = one refl
either false b is one two = two is

in_first : (a b : Bool) → a ≡ true → (a || b) ≡ true
in_first true b is = refl
in_first false b is = absurd (false≢true is)

module _ (told : OneFact) where
  none_of : (first : Fact) (address : Addr) (value : ℤ) (by : Producer) → (first ≡ item address value by → ⊥) → is_fact first (item address value by) ≡ true → ⊥
  none_of first address value by other is = other ((told first (item address value by)).1 is)

  -- the numbers of the puts of an instance
  number_below : (j : Inst) (k : ℕ) (puts : List Put) (address : Addr) (value : ℤ) (i : Inst) (n : ℕ) → among (put_facts j k puts) (item address value (By i n)) ≡ true → n < k + length puts
  number_below j k [] address value i n there = absurd (false≢true there)
  number_below j k (put.Item a v ∷ puts) address value i n there =
      either (is_fact (item a v (By j k)) (item address value (By i n))) (among (put_facts j (suc k) puts) (item address value (By i n))) there
      (λ is. omega (arith, same ((told (item a v (By j k)) (item address value (By i n))).1 is)))
      (λ later. omega (arith, number_below j (suc k) puts address value i n later))
    where
      same : item a v (By j k) ≡ item address value (By i n) → k ≡ n
      same is = cc
  number_below j k (put.Tag name ∷ puts) address value i n there = omega (arith, number_below j (suc k) puts address value i n there)

  module _ (few : FewPuts) (g : Graph) (X : Facts) where
    event_numbers : (event : Event) → IsLegal g X event → (address : Addr) (value : ℤ) (i : Inst) (n : ℕ) → among (event_facts event) (item address value (By i n)) ≡ true → n < MOST_PUTS
    event_numbers (EnvItem a v) legal address value i n there =
        either (is_fact (item a v Env) (item address value (By i n))) false there
        (λ is. absurd (other ((told (item a v Env) (item address value (By i n))).1 is)))
        (λ never. absurd (false≢true never))
      where
        other : item a v Env ≡ item address value (By i n) → ⊥
        other is = cc
    event_numbers (EnvTag name) legal address value i n there = absurd (false≢true there)
    event_numbers (Done j puts) legal address value i n there =
        let gives = legal.event_is_legal.2 in
        omega (arith, number_below j 0 puts address value i n there, few gives.step.body j.key gives.means.reads puts gives.means.along)
    event_numbers (Stopped j kind) legal address value i n there = absurd (false≢true there)

  module _ (few : FewPuts) (keeps : KeepsAtAnyReads) (state_keeps : StateKeeps) (stays : NeedsStays) (g : Graph) (old new : Memory) (event : Event) where
    pub still_of : IsOf g old → IsLegal g (facts_of old) event → Comes old new event → IsOf g new
    still_of is legal comes = record {
      graph = is.graph;
      fits = subst (λ (X : Facts). FitsState g X (facts_of new)) (λ i fact. sym (comes.environment fact) i)
          (subst (λ (X : Facts). FitsState g (with_facts (environment_of old) (environment_facts event)) X) (λ i fact. sym (comes.facts fact) i)
          (state_keeps g (environment_of old) (facts_of old) event is.fits (event_fits keeps g is.graph (facts_of old) event (λ name there. is.fits.of_graph (tag name) there) legal)));
      item_collections = comes.item_collections ∙ is.item_collections;
      tag_collections = comes.tag_collections ∙ is.tag_collections;
      prescribers = λ n. comes.prescribers n ∙ is.prescribers n;
      needs = λ i a waits. stays g (facts_of old) (facts_of new) i a
          (λ fact there. comes.facts fact ∙ in_first (facts_of old fact) (among (event_facts event) fact) there)
          (λ value by. ap (λ o. is_item o value by) (comes.listed.absent i a waits))
          (is.needs i a (comes.waited i a waits));
      listed = comes.listed;
      numbered = λ a v i n there. either (facts_of old (item a v (By i n))) (among (event_facts event) (item a v (By i n))) (sym (comes.facts (item a v (By i n))) ∙ there)
          (is.numbered a v i n)
          (event_numbers few g (facts_of old) event legal a v i n);
    }
