-- The state after one commit more.
use Rattle.std.proofs.Common.{◌≡◌, ◌∙◌, ◌||◌, ◌≤◌, ◌+◌, Bool, true, false, true≢false, List, [], ◌∷◌, ◌++◌, ℕ, length, map, cond, nat_lt, refl, sym, ap, subst, arith, length-append}
use mathlib.Core.List.{IsPrefix}
use Rattle.std.proofs.Math.Bool.{or-false, or_assoc}
use Rattle.std.proofs.lemmas.List.{append-nil}
use Rattle.std.specs.List.{flat_map}
use Rattle.terms.specs.declared.event.Event.{Event}
use Rattle.terms.specs.declared.event.Event.TheVariants as event
use Rattle.terms.specs.Commits.{Commit, events_of}
use Rattle.terms.specs.Facts.{Fact, FactsGoOn, EnvironmentGoesOn, event_facts, environment_facts}
use Rattle.terms.specs.Facts as stated
use Rattle.terms.specs.Sets.{Facts, AmongBoth, among, with_facts}
use Rattle.codec.specs.Commits.{commit_bytes}
use Rattle.codec.specs.Spelling.{event_bytes}
use Rattle.codec.specs.declared.payload.TheConstants.{MOST_EVENTS}
use Rattle.journal.specs.Records.{record_of, records}
use Rattle.graph.specs.Graph.{Graph}
use Rattle.machine.specs.State.{AreLegalFrom}
use Rattle.vault.specs.Groups.{groups_of, in_front}
use Rattle.commit.specs.Core.{Core}
use Rattle.commit.specs.Core as core
use Rattle.commit.specs.Calls.{Takes, Stays, commit_length}
use Rattle.passes.proofs.Lists.{events_joined}
use Rattle.passes.specs.Opening.{Opening}
use Rattle.hub.specs.Opening.{steps_in, facts_behind, environment_behind, AreLegalBehind, IsBehind}

-- ---- a commit that comes

-- the commit was legal and was taken, by a core that is not halted, and its record was appended
pub record Comes {D : Type 0} (old new : Core D) (commit : Commit) : Type 0 where
  pub legal : AreLegalFrom (core.graph old) (core.facts old) commit
  pub graph : core.graph new ≡ core.graph old
  pub facts : (fact : Fact) → core.facts new fact ≡ with_facts (core.facts old) (stated.facts commit) fact
  pub environment : (fact : Fact) → core.environment new fact ≡ with_facts (core.environment old) (stated.environment commit) fact
  pub working : (core.is_halted old ≡ false) × (core.is_halted new ≡ false)
  pub moved : new.vault.journal.end ≡ old.vault.journal.end + commit_length commit
  pub allowance : new.allowance + steps_in commit ≡ old.allowance

-- a commit of one event
pub comes_one : {D : Type 0} (old new : Core D) (event : Event) → Takes old new event → Comes old new (event ∷ [])
comes_one old new event takes = record {
  legal = (takes.legal, tt);
  graph = takes.takes.graph;
  facts = λ fact. takes.takes.facts fact ∙ ap (λ (list : List Fact). with_facts (core.facts old) list fact) (sym (append-nil (event_facts event)));
  environment = λ fact. takes.takes.environment fact ∙ ap (λ (list : List Fact). with_facts (core.environment old) list fact) (sym (append-nil (environment_facts event)));
  working = takes.working;
  moved = takes.moved;
  allowance = omega (arith, takes.allowance);
}

-- ---- its records

has_byte : (one : Event) → 1 ≤ length (event_bytes one)
has_byte (event.EnvItem address value) = omega arith
has_byte (event.EnvTag name) = omega arith
has_byte (event.Done instance puts) = omega arith
has_byte (event.Stopped instance kind) = omega arith

have_bytes : (events : List Event) → length events ≤ length (flat_map event_bytes events)
have_bytes [] = omega arith
have_bytes (first ∷ events) = omega (arith, has_byte first, have_bytes events, length-append (event_bytes first) (flat_map event_bytes events))

-- a record has at least as many bytes as there are events in it
group_has_bytes : (group : Commit) → length group ≤ length (record_of (commit_bytes group))
group_has_bytes [] = omega arith
group_has_bytes (one ∷ []) = omega arith
group_has_bytes (first ∷ second ∷ more) = omega (arith, have_bytes (first ∷ second ∷ more))

-- how many events some groups have
abbrev count_in : List Commit → ℕ
count_in [] = 0
count_in (group ∷ groups) = length group + count_in groups

one_in_front : (event : Event) (groups : List Commit) → count_in (in_front event groups) ≡ 1 + count_in groups
one_in_front event [] = refl
one_in_front event (group ∷ groups) = at (nat_lt (length group) MOST_EVENTS)
  where
    at : (small : Bool) → count_in (cond small ((event ∷ group) ∷ groups) ((event ∷ []) ∷ group ∷ groups)) ≡ 1 + (length group + count_in groups)
    at true = omega arith
    at false = omega arith

all_counted : (commit : Commit) → length commit ≡ count_in (groups_of commit)
all_counted [] = refl
all_counted (event ∷ events) = omega (arith, all_counted events, one_in_front event (groups_of events))

groups_have_bytes : (groups : List Commit) → count_in groups ≤ length (records (map commit_bytes groups))
groups_have_bytes [] = omega arith
groups_have_bytes (group ∷ groups) =
    omega (arith, group_has_bytes group, groups_have_bytes groups, length-append (record_of (commit_bytes group)) (records (map commit_bytes groups)))

-- the records of a commit have at least as many bytes as it has events
pub record_has_bytes : (commit : Commit) → length commit ≤ commit_length commit
record_has_bytes commit = omega (arith, all_counted commit, groups_have_bytes (groups_of commit))

-- ---- the state

pub with_nothing : (X : Facts) → with_facts X [] ≡ X
with_nothing X = λ i fact. or-false (X fact) i

with_both : AmongBoth → (X : Facts) (one two : List Fact) → with_facts X (one ++ two) ≡ with_facts (with_facts X one) two
with_both both X one two = λ i fact. (ap (λ b. X fact || b) (both one two fact) ∙ sym (or_assoc (X fact) (among one fact) (among two fact))) i

-- the events of one commit more
pub events_more : (commits : List Commit) (commit : Commit) → events_of (commits ++ commit ∷ []) ≡ events_of commits ++ commit
events_more commits commit = events_joined commits (commit ∷ []) ∙ ap (λ (list : List Event). events_of commits ++ list) (append-nil commit)

pub facts_more : AmongBoth → FactsGoOn → (opening : Opening) (commits : List Commit) (commit : Commit) → facts_behind opening (commits ++ commit ∷ []) ≡ with_facts (facts_behind opening commits) (stated.facts commit)
facts_more both go_on opening commits commit =
    ap (λ (list : List Event). with_facts opening.facts (stated.facts list)) (events_more commits commit)
    ∙ ap (λ (list : List Fact). with_facts opening.facts list) (go_on (events_of commits) commit) ∙ with_both both opening.facts (stated.facts (events_of commits)) (stated.facts commit)

environment_more : AmongBoth → EnvironmentGoesOn → (opening : Opening) (commits : List Commit) (commit : Commit) → environment_behind opening (commits ++ commit ∷ []) ≡ with_facts (environment_behind opening commits) (stated.environment commit)
environment_more both go_on opening commits commit =
    ap (λ (list : List Event). with_facts opening.environment (stated.environment list)) (events_more commits commit)
    ∙ ap (λ (list : List Fact). with_facts opening.environment list) (go_on (events_of commits) commit) ∙ with_both both opening.environment (stated.environment (events_of commits)) (stated.environment commit)

steps_joined : (first second : List Event) → steps_in (first ++ second) ≡ steps_in first + steps_in second
steps_joined [] second = omega arith
steps_joined (one ∷ first) second = omega (arith, steps_joined first second)

steps_more : (commits : List Commit) (commit : Commit) → steps_in (events_of (commits ++ commit ∷ [])) ≡ steps_in (events_of commits) + steps_in commit
steps_more commits commit = ap steps_in (events_more commits commit) ∙ steps_joined (events_of commits) commit

legal_joined : AmongBoth → (g : Graph) (X : Facts) (first second : List Event) → AreLegalFrom g X first → AreLegalFrom g (with_facts X (stated.facts first)) second → AreLegalFrom g X (first ++ second)
legal_joined both g X [] second one two = subst (λ (Y : Facts). AreLegalFrom g Y second) (with_nothing X) two
legal_joined both g X (event ∷ first) second one two =
    (one.0, legal_joined both g (with_facts X (event_facts event)) first second one.1 (subst (λ (Y : Facts). AreLegalFrom g Y second) (with_both both X (event_facts event) (stated.facts first)) two))

-- what is legal for the core is legal after the history
pub legal_more : AmongBoth → {D : Type 0} (opening : Opening) (commits : List Commit) (commit : Commit) (c : Core D) → AreLegalBehind opening commits → IsBehind opening commits c → AreLegalFrom (core.graph c) (core.facts c) commit
    → AreLegalBehind opening (commits ++ commit ∷ [])
legal_more both opening commits commit c all behind last =
    subst (λ (list : List Event). AreLegalFrom opening.graph opening.facts list) (sym (events_more commits commit))
    (legal_joined both opening.graph opening.facts (events_of commits) commit all (subst (λ (at : Graph × Facts). AreLegalFrom at.0 at.1 commit) (λ i. (behind.graph i, behind.facts i)) last))

pub behind_more : AmongBoth → FactsGoOn → EnvironmentGoesOn → {D : Type 0} (opening : Opening) (commits : List Commit) (commit : Commit) (old new : Core D) → IsBehind opening commits old → Comes old new commit → IsBehind opening (commits ++ commit ∷ []) new
behind_more both go_on goes_on opening commits commit old new behind comes = record {
  graph = comes.graph ∙ behind.graph;
  facts = (λ i fact. comes.facts fact i) ∙ ap (λ (X : Facts). with_facts X (stated.facts commit)) behind.facts ∙ sym (facts_more both go_on opening commits commit);
  environment = (λ i fact. comes.environment fact i) ∙ ap (λ (X : Facts). with_facts X (stated.environment commit)) behind.environment ∙ sym (environment_more both goes_on opening commits commit);
  allowance = omega (arith, comes.allowance, behind.allowance, steps_more commits commit);
}

pub behind_same : {D : Type 0} (opening : Opening) (commits : List Commit) (old new : Core D) → IsBehind opening commits old → Stays old new → IsBehind opening commits new
behind_same opening commits old new behind stays = record {
  graph = stays.graph ∙ behind.graph;
  facts = (λ i fact. stays.facts fact i) ∙ behind.facts;
  environment = (λ i fact. stays.environment fact i) ∙ behind.environment;
  allowance = ap (λ n. n + steps_in (events_of commits)) stays.allowance ∙ behind.allowance;
}

-- what is there after some commits is there after more of them
pub stays : AmongBoth → FactsGoOn → (opening : Opening) (some all : List Commit) → IsPrefix some all → (fact : Fact) → facts_behind opening some fact ≡ true → facts_behind opening all fact ≡ true
stays both go_on opening some all begins fact there =
    ap (λ (X : Facts). X fact)
    (ap (facts_behind opening) (sym begins.1) ∙ ap (λ (list : List Event). with_facts opening.facts (stated.facts list)) (events_joined some begins.0) ∙ ap (with_facts opening.facts) (go_on (events_of some) (events_of begins.0)))
    ∙ ap (λ b. opening.facts fact || b) (both (stated.facts (events_of some)) (stated.facts (events_of begins.0)) fact)
    ∙ still (opening.facts fact) (among (stated.facts (events_of some)) fact) (among (stated.facts (events_of begins.0)) fact) there
  where
    still : (a b c : Bool) → (a || b) ≡ true → (a || (b || c)) ≡ true
    still true b c is = refl
    still false true c is = refl
    still false false c is = absurd (true≢false (sym is))
