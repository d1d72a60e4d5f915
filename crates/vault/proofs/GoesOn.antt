-- A store from call to call, by its commits.
use Rattle.std.proofs.Common.{◌≡◌, ◌++◌, ℕ, Bool, true, false, ◌||◌, List, [], ◌∷◌, inl, inr, refl, sym, ap, subst, ◌∙◌, arith}
use Rattle.std.specs.Prelude.{◌↔◌, Vec}
use Rattle.std.specs.declared.alloc.Global.{Global}
use Rattle.std.proofs.lemmas.List.{append_assoc, append-nil}
use Rattle.disk.specs.declared.side.Side.{Side}
use Rattle.disk.specs.File.{File}
use Rattle.disk.specs.declared.storage.Disk.{Ghosts}
use Rattle.disk.specs.Moments.{weakened}
use Rattle.disk.specs.Time.{Contents, MayLeaveNow, LeavesOnly}
use Rattle.terms.specs.declared.event.Event.{Event}
use Rattle.terms.specs.Commits.{Commit, events_of, facts_behind, environment_behind}
use Rattle.terms.specs.Facts.{Fact, facts, environment, FactsGoOn, EnvironmentGoesOn}
use Rattle.terms.specs.Sets.{Facts, among, with_facts, stated, AmongBoth}
use Rattle.graph.specs.Graph.{Graph}
use Rattle.graph.specs.FitLaws.{SameSet}
use Rattle.sides.specs.Side.{end_of}
use Rattle.sides.specs.SideLaws.{HasJournal, SideAsSet}
use Rattle.vault.specs.declared.vault.Vault.{Vault}
use Rattle.vault.specs.Opened.{contents_of}
use Rattle.vault.specs.Stands.{IsLive, Stands, OneStore}
use Rattle.vault.specs.Store.{Holds, HasGates, StandsBeforeOrAfter}
use Rattle.vault.specs.Commits.{StandsForBeginning, IsLeft, Openings}
use Rattle.vault.specs.Commits.{HalfIsNoBeginning, BegunStore, AppendedStore, RefusedStore, StoreIsReady, HeldLeaves, RestLeaves, AppendLeaves, TurnLeaves, GatesRest, GatesStay, GatesGoOn, OpeningFinds, StoreGoesOn}
use Rattle.vault.proofs.FirstBytes.{gates_before}
use Rattle.vault.proofs.Ready.{held_is_ready}
use Rattle.vault.proofs.TurnedStores.{held_moments}

-- ---- one commit more

or_false : (b : Bool) → (b || false) ≡ b
or_false true = refl
or_false false = refl

or_or : (a b c : Bool) → ((a || b) || c) ≡ (a || (b || c))
or_or true b c = refl
or_or false b c = refl

-- a set with no facts more, and one with those of two lists
pub with_none : (X : Facts) → with_facts X [] ≡ X
with_none X = λ i fact. or_false (X fact) i

with_both : AmongBoth → (X : Facts) (one two whole : List Fact) → whole ≡ one ++ two → with_facts (with_facts X one) two ≡ with_facts X whole
with_both both X one two whole is = λ i fact.
    (or_or (X fact) (among one fact) (among two fact) ∙ ap (λ (b : Bool). X fact || b) (sym (both one two fact) ∙ ap (λ (list : List Fact). among list fact) (sym is))) i

-- the events of commits and one more
events_more : (commits : List Commit) (commit : Commit) → events_of (commits ++ commit ∷ []) ≡ events_of commits ++ commit
events_more [] commit = append-nil commit
events_more (first ∷ commits) commit = ap (λ (events : List Event). first ++ events) (events_more commits commit) ∙ sym (append_assoc first (events_of commits) commit)

module _ (both : AmongBoth) (facts_on : FactsGoOn) (environment_on : EnvironmentGoesOn) (E X : Facts) (commits : List Commit) (commit : Commit) where
  states_more : with_facts (facts_behind X commits) (facts commit) ≡ facts_behind X (commits ++ commit ∷ [])
  states_more = with_both both X (facts (events_of commits)) (facts commit) (facts (events_of (commits ++ commit ∷ [])))
      (ap facts (events_more commits commit) ∙ facts_on (events_of commits) commit)

  gives_more : with_facts (environment_behind E commits) (environment commit) ≡ environment_behind E (commits ++ commit ∷ [])
  gives_more = with_both both E (environment (events_of commits)) (environment commit) (environment (events_of (commits ++ commit ∷ [])))
      (ap environment (events_more commits commit) ∙ environment_on (events_of commits) commit)

  -- what holds of the two sets with the commit's facts holds of the sets after all commits and this one
  of_more : (P : Facts → Facts → Type 0)
      → P (with_facts (environment_behind E commits) (environment commit)) (with_facts (facts_behind X commits) (facts commit))
      → P (environment_behind E (commits ++ commit ∷ [])) (facts_behind X (commits ++ commit ∷ []))
  of_more P it = subst (λ (F : Facts). P F (facts_behind X (commits ++ commit ∷ []))) gives_more
      (subst (P (with_facts (environment_behind E commits) (environment commit))) states_more it)

-- ---- half a commit

true_is_not_false : true ≡ false → ⊥
true_is_not_false is = cc

-- the facts of the first event alone are not those of a prefix of one commit of two events, if each event states a new one
half : (X : Facts) (first second : Event) (one other : Fact) (made later : List Commit) → (first ∷ second ∷ []) ∷ [] ≡ made ++ later
    → X one ≡ false → stated (first ∷ []) one ≡ true → X other ≡ false → stated (first ∷ []) other ≡ false → stated (first ∷ second ∷ []) other ≡ true
    → ((fact : Fact) → with_facts X (facts (first ∷ [])) fact ≡ facts_behind X made fact) → ⊥
half X first second one other [] later is one_is_new one_there other_is_new not_first other_there same =
    true_is_not_false (sym one_there ∙ ap (λ (b : Bool). b || stated (first ∷ []) one) (sym one_is_new) ∙ same one ∙ or_false (X one) ∙ one_is_new)
half X first second one other (commit ∷ []) later is one_is_new one_there other_is_new not_first other_there same =
    let whole : commit ≡ first ∷ second ∷ [] = cc in
    let behind : facts_behind X (commit ∷ []) other ≡ true =
    ap (λ (b : Bool). b || among (facts (commit ++ [])) other) other_is_new ∙ ap (λ (all : Commit). among (facts (all ++ [])) other) whole ∙ other_there in
    let first_alone : with_facts X (facts (first ∷ [])) other ≡ false = ap (λ (b : Bool). b || stated (first ∷ []) other) other_is_new ∙ not_first in
    true_is_not_false (sym behind ∙ sym (same other) ∙ first_alone)
half X first second one other (commit ∷ more ∷ made) later is one_is_new one_there other_is_new not_first other_there same = cc

pub half_is_no_beginning : OneStore → HalfIsNoBeginning
half_is_no_beginning one_store contents g E X first second one other stands one_is_new one_there other_is_new not_first other_there it =
    half X first second one other it.made it.later it.beginning one_is_new one_there other_is_new not_first other_there
    (one_store contents g g (with_facts E (environment (first ∷ []))) (environment_behind E it.made) (with_facts X (facts (first ∷ []))) (facts_behind X it.made) stands it.stands).2

-- ---- what a crash leaves at each moment

-- bytes that stand for the acknowledged commits stand for a prefix, whatever is pending
none_made : (g : Graph) (E X : Facts) (commits pending : List Commit) (contents : Contents) → Stands contents g (environment_behind E commits) (facts_behind X commits)
    → StandsForBeginning g E X commits pending contents
none_made g E X commits pending contents stands = record {
  made = [];
  later = pending;
  beginning = refl;
  stands = subst (λ (all : List Commit). Stands contents g (environment_behind E all) (facts_behind X all)) (sym (append-nil commits)) stands;
}

module _ {D : Type 0} (storage : Ghosts D) where
  pub turn_leaves : TurnLeaves storage
  turn_leaves old new g E X commits only =
      weakened storage.moment storage.left_at old.disk new.disk (λ contents. Stands contents g (environment_behind E commits) (facts_behind X commits)) (StandsForBeginning g E X commits [])
      only (none_made g E X commits [])

  pub append_leaves : AmongBoth → FactsGoOn → EnvironmentGoesOn → AppendLeaves storage
  append_leaves both facts_on environment_on old new g E X commits commit only =
      weakened storage.moment storage.left_at old.disk new.disk (StandsBeforeOrAfter g (environment_behind E commits) (facts_behind X commits) commit) (StandsForBeginning g E X commits (commit ∷ [])) only
      (λ contents either. elim either [
        | inl stands ↦ none_made g E X commits (commit ∷ []) contents stands
        | inr stands ↦ record {
          made = commit ∷ [];
          later = [];
          beginning = refl;
          stands = of_more both facts_on environment_on E X commits commit (Stands contents g) stands;
        }
      ])

  module _ (at_now : (disk : D) (contents : Contents) → storage.left_at disk (storage.moment disk) contents ↔ MayLeaveNow (storage.files disk) contents) where
    pub held_leaves : HeldLeaves storage
    held_leaves vault g E X holds = held_moments storage.files storage.moment storage.left_at at_now vault g E X holds

    pub rest_leaves : RestLeaves storage
    rest_leaves vault g E X commits it = turn_leaves vault vault g E X commits (held_leaves vault g (environment_behind E commits) (facts_behind X commits) it)

    pub gates_rest : GatesRest storage
    gates_rest vault g E X holds gates = gates_before storage.files storage.moment storage.left_at vault g E X holds gates at_now

    pub gates_stay : ((disk : D) → MayLeaveNow (storage.files disk) (contents_of (storage.files disk))) → GatesStay storage
    gates_stay reads_left before after only =
        let now = contents_of (storage.files after) in
        only.each (storage.moment after) now only.later (omega arith) ((at_now after now).1 (reads_left after))

  -- ---- what a call makes of a store

  pub begun : BegunStore storage
  begun vault g E X holds =
      subst (λ (F : Facts). Holds storage.files vault g F (with_facts X [])) (sym (with_none E)) (subst (λ (Y : Facts). Holds storage.files vault g E Y) (sym (with_none X)) holds)

  pub appended : AmongBoth → FactsGoOn → EnvironmentGoesOn → AppendedStore storage
  appended both facts_on environment_on vault g E X commits commit = of_more both facts_on environment_on E X commits commit (Holds storage.files vault g)

  -- a live side by its name and its generation
  named_so : (contents : Contents) (s t : Side) (m n : ℕ) (g : Graph) (E X : Facts) → t ≡ s → n ≡ m → (it : IsLive contents s m g E X)
      → (too : IsLive contents t n g E X) × (end_of too.is_side ≡ end_of it.is_side)
  named_so contents s t m n g E X sides generations it =
      subst (λ (named : Side × ℕ). (too : IsLive contents named.0 named.1 g E X) × (end_of too.is_side ≡ end_of it.is_side))
      (λ i. (sym sides i, sym generations i)) (it, refl)

  pub refused : RefusedStore storage
  refused old new g E X it same =
      let live = named_so it.contents old.journal.side new.journal.side old.generation new.generation g E X same.side same.generation it.is_live in
      record {
        contents = it.contents;
        rests = λ side. ap (λ (disk : D). storage.files disk side) same.disk ∙ it.rests side;
        is_live = live.0;
        ends = same.end ∙ it.ends ∙ sym live.1;
        text = ap (λ (text : Vec ℕ Global). text.items) same.text ∙ it.text;
      }

  pub ready : HasJournal → StoreIsReady storage
  ready journal vault g E X holds = held_is_ready storage.files journal vault g E X holds

  -- ---- openings

  -- what a crash at a storage.moment of a call left
  struck : (old new : D) (P : Contents → Type 0) (crashed : D) → LeavesOnly storage.moment storage.left_at old new P
      → IsLeft storage old new crashed → (contents : Contents) → MayLeaveNow (storage.files crashed) contents → P contents
  struck old new P crashed only it contents left = only.each it.struck contents it.begun it.ended (it.crash contents left)

  -- openings that gave no store add nothing to what a crash may leave
  openings_leave : (first last : D) (openings : List (D × D)) → Openings storage first openings last
      → (contents : Contents) → MayLeaveNow (storage.files last) contents → MayLeaveNow (storage.files first) contents
  openings_leave first last [] is contents left = subst (λ (disk : D). MayLeaveNow (storage.files disk) contents) is left
  openings_leave first last ((after, next) ∷ others) ended contents left =
      let now = openings_leave next last others ended.1 contents left in
      elim ended.0 [
        | inl cut ↦ struck first after (MayLeaveNow (storage.files first)) next cut.0 cut.1 contents now
        | inr refused ↦ refused.1 contents (subst (λ (disk : D). MayLeaveNow (storage.files disk) contents) refused.0 now)
      ]

  -- what holds of the storage.files at each storage.moment of a call holds of them after a crash and openings
  behind_openings : ((disk : D) → MayLeaveNow (storage.files disk) (contents_of (storage.files disk))) → (P : Contents → Type 0) (before after crashed last : D) (openings : List (D × D))
      → LeavesOnly storage.moment storage.left_at before after P → IsLeft storage before after crashed → Openings storage crashed openings last → P (contents_of (storage.files last))
  behind_openings reads_left P before after crashed last openings only left ended =
      struck before after P crashed only left (contents_of (storage.files last)) (openings_leave crashed last openings ended (contents_of (storage.files last)) (reads_left last))

  pub gates_go_on : ((disk : D) → MayLeaveNow (storage.files disk) (contents_of (storage.files disk))) → GatesGoOn storage
  gates_go_on reads_left = behind_openings reads_left HasGates

  -- a vault that holds some sets of facts holds equal sets too
  holds_as_set : SideAsSet → (vault : Vault D) (g : Graph) (E F X Y : Facts) → SameSet F E → SameSet Y X → Holds storage.files vault g F Y → Holds storage.files vault g E X
  holds_as_set as_set vault g E F X Y given same it =
      let too = as_set (it.contents vault.journal.side) g vault.generation F E Y X given same it.is_live.is_side in
      record {
        contents = it.contents;
        rests = it.rests;
        is_live = record { is_side = too.0; behind = it.is_live.behind };
        ends = it.ends ∙ sym too.1;
        text = it.text;
      }

  module _ (as_set : SideAsSet) (one_store : OneStore) where
    pub finds : OpeningFinds storage
    finds disk g E X stands vault h F Y it same =
        let read : it.contents ≡ contents_of (storage.files disk) = λ i side. (ap (λ (f : File). f.content) (sym (it.rests side)) ∙ same side) i in
        let found = subst (λ (contents : Contents). Stands contents h F Y) read (vault.journal.side, vault.generation, it.is_live) in
        let one = one_store (contents_of (storage.files disk)) h g F E Y X found stands in
        (subst (λ (graph : Graph). Holds storage.files vault graph E X) one.0 (holds_as_set as_set vault h E F X Y one.1 one.2 it), one.0, one.1, one.2)

    pub goes_on : ((disk : D) → MayLeaveNow (storage.files disk) (contents_of (storage.files disk))) → StoreGoesOn storage
    goes_on reads_left g E X acknowledged pending before after crashed last openings only left ended =
        let found = behind_openings reads_left (StandsForBeginning g E X acknowledged pending) before after crashed last openings only left ended in
        let commits = acknowledged ++ found.made in
        (found, λ vault h F Y it same. finds last g (environment_behind E commits) (facts_behind X commits) found.stands vault h F Y it same)
