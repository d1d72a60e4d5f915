-- What a core has and what its files stand for, said by the commit order.
use Rattle.std.proofs.Common.{◌≡◌, ◌∙◌, ap, sym, refl, subst, List, [], ◌∷◌, ◌++◌}
use Rattle.std.proofs.lemmas.List.{append-nil}
use Rattle.disk.specs.Time.{Contents}
use Rattle.terms.specs.declared.event.Event.{Event}
use Rattle.terms.specs.Commits.{Commit, events_of, facts_behind, environment_behind}
use Rattle.terms.specs.Facts.{event_facts}
use Rattle.terms.specs.Sets.{AmongBoth, Facts, with_facts}
use Rattle.graph.specs.Graph.{Graph}
use Rattle.machine.specs.State.{AreLegalFrom}
use Rattle.vault.specs.Stands.{Stands}
use Rattle.vault.specs.Store.{nothing}
use Rattle.commit.specs.Core.{Core}
use Rattle.commit.specs.Core as core
use Rattle.commit.proofs.Lists.{events_joined, legal_joined}
use Rattle.moves.specs.Order.{History}
use Rattle.moves.specs.There.{Has, MayStand}

-- ---- legal lists

-- what is made, and what is in doubt after it, is legal
abbrev pub IsLegal : Graph → History → Type 0
IsLegal g h = AreLegalFrom g nothing (events_of (h.made ++ h.doubt))

first_legal : (g : Graph) (X : Facts) (one two : List Event) → AreLegalFrom g X (one ++ two) → AreLegalFrom g X one
first_legal g X [] two legal = tt
first_legal g X (event ∷ one) two legal = (legal.0, first_legal g (with_facts X (event_facts event)) one two legal.1)

-- so is a prefix of it
pub prefix_legal : (g : Graph) (one two all : List Commit) → all ≡ one ++ two → AreLegalFrom g nothing (events_of all) → AreLegalFrom g nothing (events_of one)
prefix_legal g one two all is legal =
    first_legal g nothing (events_of one) (events_of two) (subst (λ (events : List Event). AreLegalFrom g nothing events) (ap events_of is ∙ events_joined one two) legal)

-- and one commit more that is legal after it
pub more_legal : AmongBoth → (g : Graph) (made : List Commit) (commit : Commit) → AreLegalFrom g nothing (events_of made) → AreLegalFrom g (facts_behind nothing made) commit → AreLegalFrom g nothing (events_of (made ++ commit ∷ []))
more_legal both g made commit before after =
    subst (λ (events : List Event). AreLegalFrom g nothing events)
    (sym (events_joined made (commit ∷ []) ∙ ap (λ (events : List Event). events_of made ++ events) (append-nil commit)))
    (legal_joined both g nothing (events_of made) commit before after)

-- ---- what a core has

module _ {D : Type 0} (g : Graph) (h : History) (c : Core D) (has : Has g h c) where
  pub all : core.facts c ≡ facts_behind nothing h.made
  all = λ i fact. has.facts fact i

  pub given : core.environment c ≡ environment_behind nothing h.made
  given = λ i fact. has.environment fact i

  -- what holds of the graph and the facts of the core holds of those of the order
  pub carried : (P : Graph → Facts → Facts → Type 0) → P (core.graph c) (core.environment c) (core.facts c) → P g (environment_behind nothing h.made) (facts_behind nothing h.made)
  carried P it =
      subst (λ (X : Facts). P g (environment_behind nothing h.made) X) all
      (subst (λ (E : Facts). P g E (core.facts c)) given (subst (λ (k : Graph). P k (core.environment c) (core.facts c)) has.graph it))

  -- files that stand for what the core has stand for what was made
  pub stands_now : (doubt : List Commit) (contents : Contents) → Stands contents (core.graph c) (core.environment c) (core.facts c) → MayStand g (record { made = h.made; doubt = doubt }) contents
  stands_now doubt contents stands = record {
    made = [];
    later = doubt;
    beginning = refl;
    stands =
        subst (λ (commits : List Commit). Stands contents g (environment_behind nothing commits) (facts_behind nothing commits)) (sym (append-nil h.made))
        (carried (λ k E X. Stands contents k E X) stands);
  }

  pub legal_after : (events : List Event) → AreLegalFrom (core.graph c) (core.facts c) events → AreLegalFrom g (facts_behind nothing h.made) events
  legal_after events legal = carried (λ k E X. AreLegalFrom k X events) legal
