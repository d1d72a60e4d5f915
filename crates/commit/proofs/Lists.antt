-- Lists of events, one after another: what they state, and that they are legal.
use Rattle.std.proofs.Common.{◌≡◌, ◌∙◌, ◌||◌, ◌+◌, ◌++◌, ap, refl, sym, subst, ℕ, List, [], ◌∷◌, arith}
use Rattle.std.proofs.Math.Bool.{or-false, or_assoc}
use Rattle.std.proofs.lemmas.Grind.{flat_map-append}
use Rattle.std.proofs.lemmas.List.{append_assoc, append-nil}
use Rattle.std.specs.List.{AllByRecursion}
use Rattle.terms.specs.declared.event.Event.{Event}
use Rattle.terms.specs.declared.event.Event.TheVariants as event
use Rattle.terms.specs.Commits.{Commit, events_of, facts_behind, environment_behind}
use Rattle.terms.specs.Facts.{Fact, event_facts, environment_facts, facts, environment}
use Rattle.terms.specs.Sets.{Facts, AmongBoth, among, with_facts}
use Rattle.graph.specs.Graph.{Graph}
use Rattle.machine.specs.State.{AreLegalFrom}
use Rattle.commit.specs.Calls.{commit_length}
use Rattle.commit.specs.Runs.{IsEnd, in_one, latest_after, records_length}

-- ---- sets

pub with_nothing : (X : Facts) → with_facts X [] ≡ X
with_nothing X = λ i fact. or-false (X fact) i

pub with_both : AmongBoth → (X : Facts) (one two : List Fact) → with_facts X (one ++ two) ≡ with_facts (with_facts X one) two
with_both both X one two = λ i fact. (ap (λ b. X fact || b) (both one two fact) ∙ sym (or_assoc (X fact) (among one fact) (among two fact))) i

-- ---- commits

pub events_in_one : (events : List Event) → events_of (in_one events) ≡ events
events_in_one [] = refl
events_in_one (first ∷ events) = append-nil (first ∷ events)

pub events_joined : (first second : List Commit) → events_of (first ++ second) ≡ events_of first ++ events_of second
events_joined [] second = refl
events_joined (commit ∷ first) second = ap (λ (rest : List Event). commit ++ rest) (events_joined first second) ∙ sym (append_assoc commit (events_of first) (events_of second))

-- what is there after commits and then more of them
pub facts_joined : AmongBoth → (X : Facts) (first made : List Commit) → facts_behind X (first ++ made) ≡ facts_behind (facts_behind X first) made
facts_joined both X first made =
    ap (λ (events : List Event). with_facts X (facts events)) (events_joined first made)
    ∙ ap (λ (list : List Fact). with_facts X list) (flat_map-append event_facts (events_of first) (events_of made)) ∙ with_both both X (facts (events_of first)) (facts (events_of made))

pub environment_joined : AmongBoth → (E : Facts) (first made : List Commit) → environment_behind E (first ++ made) ≡ environment_behind (environment_behind E first) made
environment_joined both E first made =
    ap (λ (events : List Event). with_facts E (environment events)) (events_joined first made)
    ∙ ap (λ (list : List Fact). with_facts E list) (flat_map-append environment_facts (events_of first) (events_of made)) ∙ with_both both E (environment (events_of first)) (environment (events_of made))

-- ---- ends of instances

pub ends_joined : (first second : List Event) → AllByRecursion IsEnd first → AllByRecursion IsEnd second → AllByRecursion IsEnd (first ++ second)
ends_joined [] second one two = two
ends_joined (end ∷ first) second one two = (one.0, ends_joined first second one.1 two)

pub first_ends : (first second : List Event) → AllByRecursion IsEnd (first ++ second) → AllByRecursion IsEnd first
first_ends [] second all = tt
first_ends (end ∷ first) second all = (all.0, first_ends first second all.1)

-- the environment puts nothing by an end
pub puts_nothing : (end : Event) → IsEnd end → environment_facts end ≡ []
puts_nothing (event.EnvItem address value) is = absurd is
puts_nothing (event.EnvTag name) is = absurd is
puts_nothing (event.Done instance puts) is = refl
puts_nothing (event.Stopped instance kind) is = refl

pub put_nothing : (ends : List Event) → AllByRecursion IsEnd ends → environment ends ≡ []
put_nothing [] all = refl
put_nothing (end ∷ ends) all = ap (λ (list : List Fact). list ++ environment ends) (puts_nothing end all.0) ∙ put_nothing ends all.1

pub environment_stays : AmongBoth → (E : Facts) (first made : List Commit) → AllByRecursion IsEnd (events_of first) → environment_behind E (first ++ made) ≡ environment_behind E made
environment_stays both E first made all =
    environment_joined both E first made ∙ ap (λ (Y : Facts). environment_behind Y made) (ap (λ (list : List Fact). with_facts E list) (put_nothing (events_of first) all) ∙ with_nothing E)

pub given_by_ends : (E : Facts) (ends : List Event) → AllByRecursion IsEnd ends → with_facts E (environment ends) ≡ E
given_by_ends E ends all = ap (λ (list : List Fact). with_facts E list) (put_nothing ends all) ∙ with_nothing E

-- ---- records

none : (n : ℕ) → n ≡ 0 + n
none n = omega arith

one_more : (one first both second : ℕ) → both ≡ first + second → one + both ≡ one + first + second
one_more one first both second is = omega (arith, is)

-- the records of both lists
pub records_joined : (first second : List Commit) → records_length (first ++ second) ≡ records_length first + records_length second
records_joined [] second = none (records_length second)
records_joined (commit ∷ first) second = one_more (commit_length commit) (records_length first) (records_length (first ++ second)) (records_length second) (records_joined first second)

-- the latest commit after both lists
pub latest_joined : (before : Commit) (first second : List Commit) → latest_after before (first ++ second) ≡ latest_after (latest_after before first) second
latest_joined before [] second = refl
latest_joined before (commit ∷ first) second = latest_joined commit first second

-- ---- legal lists

pub legal_joined : AmongBoth → (g : Graph) (X : Facts) (first second : List Event) → AreLegalFrom g X first → AreLegalFrom g (with_facts X (facts first)) second → AreLegalFrom g X (first ++ second)
legal_joined both g X [] second one two = subst (λ (Y : Facts). AreLegalFrom g Y second) (with_nothing X) two
legal_joined both g X (event ∷ first) second one two =
    (one.0, legal_joined both g (with_facts X (event_facts event)) first second one.1 (subst (λ (Y : Facts). AreLegalFrom g Y second) (with_both both X (event_facts event) (facts first)) two))
