-- What a locked call says to its pass.
use Rattle.std.proofs.Common.{◌≡◌, ◌∙◌, ℕ, List, [], ◌∷◌, ◌++◌, refl, sym, ap, subst, arith, ⊎_elim, true, false, Result, Err}
use mathlib.Core.List.{IsPrefix}
use Rattle.terms.specs.declared.event.Event.{Event}
use Rattle.terms.specs.Commits.{Commit}
use Rattle.terms.specs.Facts.{Fact, FactsGoOn}
use Rattle.terms.specs.Sets.{Facts, AmongBoth}
use Rattle.passes.specs.Rule.{IsInHistory}
use Rattle.graph.specs.Graph.{Graph}
use Rattle.terms.specs.declared.name.Addr.{Addr}
use Rattle.terms.specs.declared.name.Inst.{Inst}
use Rattle.graph.specs.Fits.{IsAbsent}
use Rattle.machine.specs.declared.refusal.Refusal.{Refusal}
use Rattle.machine.specs.Results.{IsBodyOf, ReadsStay}
use Rattle.steplang.specs.Running.{Asking}
use Rattle.commit.specs.Came.{IsParkedIn, IsOutcomeIn}
use Rattle.commit.specs.Steps.{IsParkedOf, RefusesPark}
use Rattle.commit.specs.Outcome.{IsOutcomeOf}
use Rattle.commit.specs.declared.outcome.Outcome.{Outcome}
use Rattle.commit.specs.declared.outcome.Outcome.TheVariants.{Gave, Fault}
use Rattle.vault.specs.declared.error.VaultError.TheVariants as vault
use Rattle.commit.specs.declared.error.CoreError.{CoreError}
use Rattle.commit.specs.declared.error.CoreError.TheVariants.{Refused, Store}
use Rattle.commit.specs.Core.{Core}
use Rattle.commit.specs.Core as core
use Rattle.commit.specs.Calls.{Refuses, TellsFull}
use Rattle.passes.specs.Known.{Known, Made, commits, count_of, up_to_date, with_commit}
use Rattle.passes.specs.Opening.{Opening}
use Rattle.hub.specs.Opening.{end_behind, facts_behind, AreLegalBehind, IsBehind}
use Rattle.passes.specs.Visits.{Shows, Writes}
use Rattle.hub.specs.Replies.{Sees, Adds, AddsNothing, HasNoRoom, RefusesAt, RefusesEvent, RefusesWait}
use Rattle.passes.proofs.Lists.{commits_append, count_joined, prefix_more}
use Rattle.hub.proofs.States.{stays}

-- a call that adds nothing
pub sees_same : (opening : Opening) (history : List Made) (old new : Known) → AreLegalBehind opening (commits history) → Shows history old new → Sees opening old new
sees_same opening history old new legal shows = subst (Sees opening old) (sym shows.pass) (record {
  starts = shows.before.seen;
  legal = legal;
  told = shows.before.told;
  same = (refl, refl, refl, refl);
})

pub adds_nothing : (history : List Made) (old new : Known) → Shows history old new → AddsNothing old new
adds_nothing history old new shows = ap (λ (known : Known). known.mine) shows.pass

pub tells_nothing : (opening : Opening) (history : List Made) (old new : Known) → AreLegalBehind opening (commits history) → Shows history old new → Sees opening old new × AddsNothing old new
tells_nothing opening history old new legal shows = (sees_same opening history old new legal shows, adds_nothing history old new shows)

-- a call that adds a commit
pub sees_more : (opening : Opening) (commit : Commit) (before after : List Made) (old new : Known) → AreLegalBehind opening (commits after) → Writes commit before after old new → Sees opening old new
sees_more opening commit before after old new legal writes =
    let more : commits after ≡ commits before ++ commit ∷ [] = ap commits writes.history ∙ commits_append before (record { pass = old.number; commit = commit } ∷ []) in
    subst (Sees opening old) (sym writes.pass) (record {
      starts = subst (IsPrefix old.seen) (sym more) (prefix_more old.seen (commits before) (commit ∷ []) writes.before.seen);
      legal = legal;
      told = omega (arith, writes.before.told, ap (λ (list : List Commit). count_of list) more, count_joined (commits before) (commit ∷ []));
      same = (refl, refl, refl, refl);
    })

pub adds_one : (commit : Commit) (before after : List Made) (old new : Known) → Writes commit before after old new → Adds commit old new
adds_one commit before after old new writes = subst (Adds commit old) (sym writes.pass) (record {
  before = commits before;
  starts = writes.before.seen;
  ends = ap commits writes.history ∙ commits_append before (record { pass = old.number; commit = commit } ∷ []);
  mine = refl;
})

-- the state that the pass knows is the core's
pub known_state : {D : Type 0} (opening : Opening) (history : List Made) (old new : Known) (c : Core D) → IsBehind opening (commits history) c → Shows history old new → core.facts c ≡ facts_behind opening new.seen
known_state opening history old new c behind shows = behind.facts ∙ ap (λ (known : Known). facts_behind opening known.seen) (sym shows.pass)

-- the causes of a refusal are there
refuses_at : {D T : Type 0} (c : Core D) (g : Graph) (X : Facts) (end : ℕ) (why : Graph → Facts → Refusal → Type 0) (event : Event) (error : CoreError) → core.graph c ≡ g → core.facts c ≡ X → (core.is_halted c ≡ false → c.vault.journal.end ≡ end)
    → Refuses c (why (core.graph c) (core.facts c)) event error → TellsFull {T = T} c event (Err error) → RefusesAt g X end (why g X) event error
refuses_at {D} {T} c g X end why event error same_graph same_facts same_end refuses full =
    subst (λ (at : Graph × Facts). RefusesAt at.0 at.1 end (why at.0 at.1) event error) (λ i. (same_graph i, same_facts i)) (here error refuses full)
  where
    not_full : ◌≡◌ {A = Result T CoreError} (Err (Store vault.Device)) (Err (Store vault.Full)) → ⊥
    not_full is = cc

    not_memory : ◌≡◌ {A = Result T CoreError} (Err (Store vault.Device)) (Err (Store vault.NoMemory)) → ⊥
    not_memory is = cc

    here : (error : CoreError) → Refuses c (why (core.graph c) (core.facts c)) event error → TellsFull {T = T} c event (Err error) → RefusesAt (core.graph c) (core.facts c) end (why (core.graph c) (core.facts c)) event error
    here (Refused refusal) is told = is.1
    here (Store vault.Halted) is told = tt
    here (Store vault.Full) is told = (is.1, subst (λ (n : ℕ). HasNoRoom n event) (same_end is.0) is.2)
    here (Store vault.Device) is told = (is.1, λ long. ⊎_elim not_full not_memory (told is.0 is.1 (subst (λ (n : ℕ). HasNoRoom n event) (sym (same_end is.0)) long)))
    here (Store vault.NoMemory) is told = is.1
    here (Store (vault.Damaged side place)) is told = is
    here (Store vault.NotAStore) is told = is
    here (Store vault.Exists) is told = is

-- where the pass knows that the journal ends
pub known_end : {D : Type 0} (opening : Opening) (history : List Made) (old new : Known) (c : Core D) → (core.is_halted c ≡ false → c.vault.journal.end ≡ end_behind opening (commits history)) → Shows history old new
    → core.is_halted c ≡ false → c.vault.journal.end ≡ end_behind opening new.seen
known_end opening history old new c ends shows working = ends working ∙ ap (λ (known : Known). end_behind opening known.seen) (sym shows.pass)

pub refuses_there : {D T : Type 0} (opening : Opening) (history : List Made) (old new : Known) (c : Core D) (why : Graph → Facts → Refusal → Type 0) (event : Event) (error : CoreError)
    → IsBehind opening (commits history) c → (core.is_halted c ≡ false → c.vault.journal.end ≡ end_behind opening (commits history)) → Shows history old new
    → Refuses c (why (core.graph c) (core.facts c)) event error → TellsFull {T = T} c event (Err error) → RefusesEvent opening new why event error
refuses_there {D} {T} opening history old new c why event error behind ends shows refuses full =
    refuses_at {D = D} {T = T} c opening.graph (facts_behind opening new.seen) (end_behind opening new.seen) why event error behind.graph (known_state opening history old new c behind shows) (known_end opening history old new c ends shows) refuses full

-- why an instance may not wait
pub refuses_wait : {D T : Type 0} (opening : Opening) (history : List Made) (before now : Known) (old new : Core D) (address : Addr) (error : CoreError) → IsBehind opening (commits history) old → Shows history before now
    → RefusesPark {T = T} old new address (Err error) → RefusesWait opening now address error
refuses_wait opening history before now old new address error behind shows refuses =
    ⊎_elim
    (λ (halted : (core.is_halted old ≡ true) × (error ≡ Store vault.Halted)). subst (RefusesWait opening now address) (sym halted.1) tt)
    (λ (none : (core.is_halted old ≡ false) × IsAbsent (core.facts old) address × (error ≡ Store vault.NoMemory)). subst (RefusesWait opening now address) (sym none.2)
    (subst (λ (X : Facts). IsAbsent X address) (known_state opening history before now old behind shows) none.1))
    refuses.causes

-- ---- a pass that sees the history first

-- the commit that is made then is made with the pass as it was
pub writes_from : (commit : Commit) (before after : List Made) (old seen new : Known) → Shows before old seen → Writes commit before after seen new → Writes commit before after old new
writes_from commit before after old seen new shows writes = record {
  before = shows.before;
  history = writes.history ∙ ap (λ (known : Known). before ++ record { pass = known.number; commit = commit } ∷ []) shows.pass;
  pass = writes.pass ∙ ap (λ (known : Known). up_to_date after (with_commit commit known)) shows.pass;
}

-- what the pass has seen is there for the core
pub seen_stays : AmongBoth → FactsGoOn → {D : Type 0} (opening : Opening) (history : List Made) (known : Known) (c : Core D) → IsBehind opening (commits history) c → IsInHistory history known
    → (fact : Fact) → facts_behind opening known.seen fact ≡ true → core.facts c fact ≡ true
seen_stays both go_on opening history known c behind before fact there = ap (λ (X : Facts). X fact) behind.facts ∙ stays both go_on opening known.seen (commits history) before.seen fact there

-- what a result read is there for the core, and its body is that of the core's graph
pub parked_there : AmongBoth → FactsGoOn → ReadsStay → {D : Type 0} (opening : Opening) (history : List Made) (known : Known) (c : Core D) (task : Inst) (parked : Asking) → IsBehind opening (commits history) c → IsInHistory history known
    → IsParkedIn opening.graph (facts_behind opening known.seen) task parked → IsParkedOf c task parked
parked_there both go_on stay opening history known c task parked behind before is = record {
  instance_is = is.instance_is;
  body = subst (λ (g : Graph). IsBodyOf g task parked.checked.now.body) (sym behind.graph) is.body;
  reads = stay (facts_behind opening known.seen) (core.facts c) parked.reads (seen_stays both go_on opening history known c behind before) is.reads;
}

pub outcome_there : AmongBoth → FactsGoOn → ReadsStay → {D : Type 0} (opening : Opening) (history : List Made) (known : Known) (c : Core D) (task : Inst) (outcome : Outcome) → IsBehind opening (commits history) c → IsInHistory history known
    → IsOutcomeIn opening.graph (facts_behind opening known.seen) task outcome → IsOutcomeOf c task outcome
outcome_there both go_on stay opening history known c task (Gave given) behind before is = (
  is.0,
  subst (λ (g : Graph). IsBodyOf g task given.checked.now.body) (sym behind.graph) is.1,
  stay (facts_behind opening known.seen) (core.facts c) given.reads (seen_stays both go_on opening history known c behind before) is.2,
)
outcome_there both go_on stay opening history known c task (Fault bad) behind before is = (
  is.0,
  subst (λ (g : Graph). IsBodyOf g task bad.checked.now.body) (sym behind.graph) is.1,
  stay (facts_behind opening known.seen) (core.facts c) bad.reads (seen_stays both go_on opening history known c behind before) is.2,
)
