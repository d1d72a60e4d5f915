-- A store of which all was replayed is what was replayed, and its fault.
use Rattle.std.proofs.Common.{◌≡◌, ◌∙◌, ℤ, Bool, true, false, ◌||◌, [], ◌∷◌, Option, Some, refl, sym, ap, subst}
use Rattle.std.proofs.lemmas.Bool.{false≢true}
use Rattle.terms.specs.declared.name.Addr.{Addr}
use Rattle.terms.specs.declared.name.Tag.{Tag}
use Rattle.terms.specs.declared.name.Inst.{Inst}
use Rattle.terms.specs.declared.fault.FaultKind.{FaultKind}
use Rattle.terms.specs.declared.producer.Producer.{Producer}
use Rattle.terms.specs.declared.event.Event.TheVariants.{Stopped}
use Rattle.terms.specs.Facts.{Fact, tag, item, done, bad}
use Rattle.terms.specs.Sets.{OneFact, AmongBoth, among, with_facts}
use Rattle.graph.specs.Fits.{IsPrescribed}
use Rattle.machine.specs.Legal.{IsAtFault, IsLegal}
use Rattle.machine.specs.Machine.{Machine, environment, facts}
use Rattle.machine.specs.Marked.{AreDoneMarked, AreItemsMarked, AreTagsMarked, Marks, marked}
use Rattle.machine.specs.Promise.{IsKept}
use Rattle.machine.specs.State.{IsReached}
use Rattle.machine.specs.StateLaws.{ReachedTakes}
use Rattle.machine.specs.Status.{TellsFault}
use Rattle.machine.proofs.Kept.{only}
use Rattle.machine.proofs.Sets.{or_left, or_right, same_truth}
use Rattle.audit.specs.Replayed.{IsReplayed}
use Rattle.audit.proofs.Stated.{IsSound, moved_reached, never}

-- all of the store but its fault was replayed
pub record IsAllOf (store : Machine) (made : Marks) : Type 0 where
  pub items : (address : Addr) (value : ℤ) (by : Producer) → facts store (item address value by) ≡ true → marked made (item address value by) ≡ true
  pub tags : (name : Tag) → facts store (tag name) ≡ true → marked made (tag name) ≡ true
  pub done : (instance : Inst) → facts store (done instance) ≡ true → marked made (done instance) ≡ true

pub all_marked : (store : Machine) (made : Marks) → made.store ≡ store → AreItemsMarked made → AreTagsMarked made → AreDoneMarked made → IsAllOf store made
all_marked store made same items tags ends = record {
  items = λ address value by there. items address value by (here (item address value by) there);
  tags = λ name there. tags name (here (tag name) there);
  done = λ instance there. ends instance (here (done instance) there);
}
  where
    here : (fact : Fact) → facts store fact ≡ true → facts made.store fact ≡ true
    here fact there = ap (λ (s : Machine). facts s fact) same ∙ there

pub same_fact : (store : Machine) (made : Marks) → IsReplayed store made → IsAllOf store made → (fact : Fact) → IsSound fact → marked made fact ≡ facts store fact
same_fact store made replayed all (tag name) sound = same_truth (marked made (tag name)) (facts store (tag name)) (replayed.within (tag name)) (all.tags name)
same_fact store made replayed all (item address value by) sound = same_truth (marked made (item address value by)) (facts store (item address value by)) (replayed.within (item address value by)) (all.items address value by)
same_fact store made replayed all (done instance) sound = same_truth (marked made (done instance)) (facts store (done instance)) (replayed.within (done instance)) (all.done instance)
same_fact store made replayed all (bad instance kind) sound = absurd sound

-- a store that is stopped by a fault that may come
pub certified_stopped : OneFact → AmongBoth → ReachedTakes → (store : Machine) (made : Marks) (instance : Inst) (kind : FaultKind) → IsKept store → IsReplayed store made → IsAllOf store made → TellsFault store (Some (instance, kind))
    → IsAtFault store.graph (marked made) instance kind → IsReached store.graph (environment store) (facts store)
certified_stopped told both takes store made instance kind kept replayed all tells at_fault =
    moved_reached store.graph store.graph (with_facts (environment store) []) (environment store) (with_facts (marked made) (bad instance kind ∷ [])) (facts store) refl
    (λ fact. or_none (environment store fact)) same (takes store.graph (environment store) (marked made) (Stopped instance kind) replayed.reached legal)
  where
    or_none : (b : Bool) → (b || false) ≡ b
    or_none true = refl
    or_none false = refl

    there : facts store (bad instance kind) ≡ true
    there = (tells instance kind).1 refl

    fault : IsPrescribed store.graph (facts store) instance × (facts store (done instance) ≡ false)
    fault = kept.fits.fault instance kind there

    legal : IsLegal store.graph (marked made) (Stopped instance kind)
    legal = record {
      working = λ one fault. refl;
      event_is_legal = (
        (fault.0.0, all.tags fault.0.0 fault.0.1, fault.0.2),
        never (marked made (done instance)) (λ is. false≢true (sym fault.1 ∙ replayed.within (done instance) is)),
        at_fault,
      );
    }

    no_bad : (fact : Fact) → IsSound fact → among (bad instance kind ∷ []) fact ≡ true → ⊥
    no_bad fact sound is = subst IsSound (sym (only told both (bad instance kind) fact is)) sound

    sound_same : (fact : Fact) → IsSound fact → (marked made fact || among (bad instance kind ∷ []) fact) ≡ facts store fact
    sound_same fact sound = ap (λ (b : Bool). marked made fact || b) (never (among (bad instance kind ∷ []) fact) (no_bad fact sound)) ∙ or_none (marked made fact) ∙ same_fact store made replayed all fact sound

    one_fault : (i : Inst) (k : FaultKind) → ◌≡◌ {A = Option (Inst × FaultKind)} (Some (instance, kind)) (Some (i, k)) → bad instance kind ≡ bad i k
    one_fault i k same = let pair = inside same in λ j. bad (pair j).0 (pair j).1
      where
        inside : ◌≡◌ {A = Option (Inst × FaultKind)} (Some (instance, kind)) (Some (i, k)) → ◌≡◌ {A = Inst × FaultKind} (instance, kind) (i, k)
        inside same = cc

    same : (fact : Fact) → (marked made fact || among (bad instance kind ∷ []) fact) ≡ facts store fact
    same (tag name) = sound_same (tag name) tt
    same (item address value by) = sound_same (item address value by) tt
    same (done one) = sound_same (done one) tt
    same (bad i k) =
        same_truth (marked made (bad i k) || among (bad instance kind ∷ []) (bad i k)) (facts store (bad i k))
        (λ is. subst (λ (f : Fact). facts store f ≡ true) (only told both (bad instance kind) (bad i k) is) there)
        (λ is. or_right (marked made (bad i k)) (among (bad instance kind ∷ []) (bad i k)) (subst (λ (f : Fact). among (bad instance kind ∷ []) f ≡ true) (one_fault i k ((tells i k).0 is)) (or_left _ false (told (bad instance kind) (bad instance kind)).0)))
