-- An instance of which the store has all puts is replayed by a legal event.
use Rattle.std.proofs.Common.{◌≡◌, ◌∙◌, ℕ, ◌+◌, ◌<◌, ◌≤◌, Bool, true, false, ◌||◌, List, [], ◌∷◌, ◌++◌, get_or, length, take, Some, inl, inr, refl, sym, ap, subst, arith}
use Rattle.std.specs.Prelude.{slice_get}
use Rattle.std.proofs.lemmas.Bool.{false≢true}
use Rattle.std.proofs.lemmas.List.{length-take-le, take_all, take_more}
use Rattle.std.proofs.lemmas.Option.{slice_get-get_or}
use Rattle.terms.specs.declared.name.Addr.{Addr}
use Rattle.terms.specs.declared.name.Inst.{Inst}
use Rattle.terms.specs.declared.producer.Producer.{Producer}
use Rattle.terms.specs.declared.producer.Producer.TheVariants.{By}
use Rattle.terms.specs.declared.put.Put.{Put}
use Rattle.terms.specs.declared.put.Put.TheVariants as put
use Rattle.terms.specs.declared.event.Event.TheVariants.{Done}
use Rattle.terms.specs.Facts.{Fact, item, done, put_fact, put_facts, event_facts}
use Rattle.terms.specs.Sets.{OneFact, AmongBoth, among, with_facts}
use Rattle.graph.specs.Fits.{AreNew, IsAbsent, IsIn, IsPrescribed, IsTwiceIn, addresses}
use Rattle.machine.specs.Legal.{IsLegal}
use Rattle.machine.specs.Meaning.{BodyGives}
use Rattle.machine.specs.Machine.{Machine, environment, facts}
use Rattle.machine.specs.Marked.{Marks, MarksDone, MarksMore, if_there, marked}
use Rattle.machine.specs.Promise.{IsKept}
use Rattle.machine.specs.StateLaws.{ReachedTakes}
use Rattle.machine.proofs.Kept.{ProducersAreDone}
use Rattle.machine.proofs.Sets.{either, of_list, or_left, or_right, the_first}
use Rattle.machine.proofs.Within.{kept_from_nothing}
use Rattle.audit.specs.Replayed.{HasAll, IsReplayed, ReplaysAs}
use Rattle.audit.proofs.Numbered.{put_at, put_twice}
use Rattle.audit.proofs.Stated.{each_of_all, facts_with_one, moved_reached, never}

-- ---- marks upon marks

pub marks_on : AmongBoth → (old mid new : Marks) (one two : List Fact) → MarksMore old mid one → MarksMore mid new two → MarksMore old new (one ++ two)
marks_on both old mid new one two first second = record {
  store = second.store ∙ first.store;
  marked = λ fact.
      second.marked fact ∙ ap (λ (b : Bool). b || among two fact) (first.marked fact) ∙ or_assoc (marked old fact) (among one fact) (among two fact)
      ∙ ap (λ (b : Bool). marked old fact || b) (sym (both one two fact));
}
  where
    or_assoc : (a b c : Bool) → ((a || b) || c) ≡ (a || (b || c))
    or_assoc true b c = refl
    or_assoc false b c = refl

pub marks_nothing : (m : Marks) → MarksMore m m []
marks_nothing m = record { store = refl; marked = λ fact. or_none (marked m fact) }
  where
    or_none : (b : Bool) → b ≡ (b || false)
    or_none true = refl
    or_none false = refl

-- one more put of a list is marked
pub one_marked : AmongBoth → (old now new : Marks) (instance : Inst) (puts : List Put) (number : ℕ) (one : Put) → number < length puts → one ≡ get_or puts number one → HasAll (facts old.store) instance puts → MarksMore old now (put_facts instance 0 (take number puts))
    → (facts now.store (put_fact instance number one) ≡ true → MarksMore now new (put_fact instance number one ∷ [])) → MarksMore old new (put_facts instance 0 (take (number + 1) puts))
one_marked both old now new instance puts number one within is all before marks =
    let at : slice_get puts number ≡ Some one = slice_get-get_or puts number one within ∙ ap (λ (p : Put). Some p) (sym is) in
    let there = ap (λ (s : Machine). facts s (put_fact instance number one)) before.store ∙ all number one at in
    let grown : take (number + 1) puts ≡ take number puts ++ one ∷ [] = take_more puts number one within ∙ ap (λ (p : Put). take number puts ++ p ∷ []) (sym is) in
    let count : 0 + length (take number puts) ≡ number = omega (arith, length-take-le number puts (omega arith)) in
    let more : MarksMore old new (put_facts instance 0 (take number puts) ++ put_fact instance number one ∷ []) =
    marks_on both old now new (put_facts instance 0 (take number puts)) (put_fact instance number one ∷ []) before (marks there) in
    subst (λ (list : List Fact). MarksMore old new list)
    (ap (λ (n : ℕ). put_facts instance 0 (take number puts) ++ put_fact instance n one ∷ []) (sym count) ∙ sym (facts_with_one instance 0 (take number puts) one) ∙ ap (λ (list : List Put). put_facts instance 0 list) (sym grown)) more

pub all_marked : (old new : Marks) (instance : Inst) (puts : List Put) (number : ℕ) → length puts ≤ number → MarksMore old new (put_facts instance 0 (take number puts)) → MarksMore old new (put_facts instance 0 puts)
all_marked old new instance puts number over marks = subst (λ (list : List Put). MarksMore old new (put_facts instance 0 list)) (take_all number puts over) marks

-- and the instance itself
pub end_marked : AmongBoth → (old mid new : Marks) (instance : Inst) (puts : List Put) → facts old.store (done instance) ≡ true → HasAll (facts old.store) instance puts → MarksDone old mid instance
    → ((one : Inst) → HasAll (facts mid.store) one puts → MarksMore mid new (put_facts one 0 puts)) → MarksMore old new (event_facts (Done instance puts))
end_marked both old mid new instance puts there all first rest =
    let one : MarksMore old mid (done instance ∷ []) = subst (λ (b : Bool). MarksMore old mid (if_there b (done instance))) there first in
    marks_on both old mid new (done instance ∷ []) (put_facts instance 0 puts) one (rest instance (subst (λ (s : Machine). HasAll (facts s) instance puts) (sym one.store) all))

-- ---- the event

module _ (told : OneFact) (both : AmongBoth) (store : Machine) (m : Marks) (kept : IsKept store) (replayed : IsReplayed store m) (task : Inst) (left : marked m (done task) ≡ false) (puts : List Put) (all : HasAll (facts store) task puts) where
  producers : ProducersAreDone (marked m)
  producers = subst ProducersAreDone (λ i fact. replayed.reached.facts fact i) (kept_from_nothing told both store.graph replayed.reached.events replayed.reached.legal).producers

  -- an item that is marked where one is put is that one, by this instance, which would be marked
  absent : (address : Addr) → IsIn address (addresses puts) → IsAbsent (marked m) address
  absent address is w by = never (marked m (item address w by)) not
    where
      not : marked m (item address w by) ≡ true → ⊥
      not there =
          let at = put_at puts address is in
          let mine = all at.number (put.Item address at.value) at.is in
          let one = kept.one_item address w at.value by (By task at.number) (replayed.within (item address w by) there) mine in
          false≢true (sym left ∙ producers address w task at.number (subst (λ (p : Producer). marked m (item address w p) ≡ true) one.1 there))

  -- the store has each put's number at its address, so no two are at one
  distinct : (address : Addr) → IsTwiceIn address (addresses puts) → ⊥
  distinct address twice =
      let it = put_twice puts address twice in
      let one = kept.one_item address it.value it.other (By task it.first) (By task it.second) (all it.first (put.Item address it.value) it.one) (all it.second (put.Item address it.other) it.two) in
      let same : it.first ≡ it.second = number it.first it.second one.1 in
      let less = it.before in
      absurd (omega arith)
    where
      number : (n k : ℕ) → By task n ≡ By task k → n ≡ k
      number n k same = cc

  new : AreNew (marked m) puts
  new = record { absent = absent; distinct = distinct }

  module _ (takes : ReachedTakes) (after : Marks) (is_done : facts store (done task) ≡ true) (prescribed : IsPrescribed store.graph (marked m) task) (gives : BodyGives store.graph (marked m) task puts) (more : MarksMore m after (event_facts (Done task puts))) where
    legal : IsLegal store.graph (marked m) (Done task puts)
    legal = record { working = λ instance kind. refl; event_is_legal = (prescribed, left, gives, new) }

    or_none : (b : Bool) → (b || false) ≡ b
    or_none true = refl
    or_none false = refl

    pub still_replayed : IsReplayed store after
    still_replayed = record {
      of_store = more.store ∙ replayed.of_store;
      reached =
          moved_reached store.graph store.graph (with_facts (environment store) []) (environment store) (with_facts (marked m) (event_facts (Done task puts))) (marked after) refl
          (λ fact. or_none (environment store fact)) (λ fact. sym (more.marked fact)) (takes store.graph (environment store) (marked m) (Done task puts) replayed.reached legal);
      within = λ fact there. elim (either (marked m fact) (among (event_facts (Done task puts)) fact) (sym (more.marked fact) ∙ there)) [
        | inl before ↦ replayed.within fact before
        | inr one ↦ elim (of_list told (done task) (put_facts task 0 puts) fact one) [
          | inl same ↦ subst (λ (f : Fact). facts store f ≡ true) same is_done
          | inr later ↦ each_of_all told (λ (f : Fact). facts store f ≡ true) task puts all fact later
        ]
      ];
    }

    pub replays_as : ReplaysAs m after task
    replays_as = record {
      before = left;
      after = more.marked (done task) ∙ or_right (marked m (done task)) (among (event_facts (Done task puts)) (done task)) (the_first told (done task) (put_facts task 0 puts));
      grows = λ fact there. more.marked fact ∙ or_left (marked m fact) (among (event_facts (Done task puts)) fact) there;
    }
