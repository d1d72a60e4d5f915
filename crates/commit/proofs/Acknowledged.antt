-- Commits that are acknowledged one after another, in two parts.
use Rattle.std.proofs.Common.{◌≡◌, ◌∙◌, ◌≤◌, ap, sym, refl, subst, inl, inr, ℕ, List, [], ◌∷◌, ◌++◌, arith}
use Rattle.std.proofs.lemmas.Bool.{cases_lt}
use Rattle.std.proofs.lemmas.List.{append_assoc, append-nil}
use Rattle.disk.specs.Time.{Contents}
use Rattle.terms.specs.Commits.{Commit, facts_behind, environment_behind}
use Rattle.terms.specs.Sets.{AmongBoth, Facts, with_facts}
use Rattle.graph.specs.Graph.{Graph}
use Rattle.vault.specs.Commits.{StandsForBeginning}
use Rattle.vault.specs.Stands.{Stands}
use Rattle.commit.specs.Runs.{AcknowledgesFrom}
use Rattle.commit.proofs.Lists.{environment_joined, facts_joined, with_nothing}

-- what stands for a state stands for it with nothing more
pub held : (g : Graph) (E X : Facts) (pending : List Commit) (contents : Contents) → Stands contents g E X → StandsForBeginning g E X [] pending contents
held g E X pending contents stands = record {
  made = [];
  later = pending;
  beginning = refl;
  stands = subst (λ (S : Facts). Stands contents g S (with_facts X [])) (sym (with_nothing E)) (subst (λ (S : Facts). Stands contents g E S) (sym (with_nothing X)) stands);
}

-- at the last moment all of the commits are acknowledged
pub all_at_last : (g : Graph) (E X : Facts) (left : ℕ → Contents → Type 0) (last from : ℕ) (made commits doubt : List Commit) → from ≤ last → AcknowledgesFrom g E X left last from made commits doubt
    → (contents : Contents) → left last contents → StandsForBeginning g E X (made ++ commits) doubt contents
all_at_last g E X left last from made [] doubt early it contents was =
    subst (λ (commits : List Commit). StandsForBeginning g E X commits doubt contents) (sym (append-nil made)) (it last contents early (omega arith) was)
all_at_last g E X left last from made (commit ∷ commits) doubt early it contents was =
    subst (λ (commits : List Commit). StandsForBeginning g E X commits doubt contents) (append_assoc made (commit ∷ []) commits)
    (all_at_last g E X left last it.0 (made ++ commit ∷ []) commits doubt it.2 it.4 contents was)

-- all that is acknowledged is there, whatever is pending
pub more_pending : (g : Graph) (E X : Facts) (made pending : List Commit) (contents : Contents) → StandsForBeginning g E X made [] contents → StandsForBeginning g E X made pending contents
more_pending g E X made pending contents it = record {
  made = [];
  later = pending;
  beginning = refl;
  stands = subst (λ (commits : List Commit). Stands contents g (environment_behind E (made ++ commits)) (facts_behind X (made ++ commits))) (none it.made it.later it.beginning) it.stands;
}
  where
    none : (one two : List Commit) → [] ≡ one ++ two → one ≡ []
    none [] two is = refl
    none (first ∷ one) two is = absurd (never is)
      where
        never : [] ≡ first ∷ (one ++ two) → ⊥
        never same = cc

module _ (both : AmongBoth) (g h : Graph) (E F X Y : Facts) (commits : List Commit) (graph : h ≡ g) (given : F ≡ environment_behind E commits) (all : Y ≡ facts_behind X commits) where
  -- what stands for more commits after these stands for them after what was before these
  pub after_commits : (made pending : List Commit) (contents : Contents) → StandsForBeginning h F Y made pending contents → StandsForBeginning g E X (commits ++ made) pending contents
  after_commits made pending contents it =
      let more = made ++ it.made in
      let of_graph = subst (λ (k : Graph). Stands contents k (environment_behind F more) (facts_behind Y more)) graph it.stands in
      let of_given : Stands contents g (environment_behind E (commits ++ more)) (facts_behind Y more) =
      subst (λ (S : Facts). Stands contents g S (facts_behind Y more)) (ap (λ (S : Facts). environment_behind S more) given ∙ sym (environment_joined both E commits more)) of_graph
      in
      let of_all : Stands contents g (environment_behind E (commits ++ more)) (facts_behind X (commits ++ more)) =
      subst (λ (S : Facts). Stands contents g (environment_behind E (commits ++ more)) S) (ap (λ (S : Facts). facts_behind S more) all ∙ sym (facts_joined both X commits more)) of_given
      in
      record {
        made = it.made;
        later = it.later;
        beginning = it.beginning;
        stands = subst (λ (all : List Commit). Stands contents g (environment_behind E all) (facts_behind X all)) (sym (append_assoc commits made it.made)) of_all;
      }

  -- what is acknowledged after these commits is acknowledged after what was before them
  pub carried : (left : ℕ → Contents → Type 0) (last from : ℕ) (made more doubt : List Commit) → AcknowledgesFrom h F Y left last from made more doubt → AcknowledgesFrom g E X left last from (commits ++ made) more doubt
  carried left last from made [] doubt it = λ t contents after before was. after_commits made doubt contents (it t contents after before was)
  carried left last from made (commit ∷ more) doubt it = (
    it.0,
    it.1,
    it.2,
    λ t contents after before was. after_commits made (commit ∷ []) contents (it.3 t contents after before was),
    subst (λ (commits : List Commit). AcknowledgesFrom g E X left last it.0 commits more doubt) (sym (append_assoc commits made (commit ∷ []))) (carried left last it.0 (made ++ commit ∷ []) more doubt it.4),
  )

module _ (g : Graph) (E X : Facts) (here there : ℕ → Contents → Type 0) (mid last : ℕ) (later : mid ≤ last) (stays : (t : ℕ) (contents : Contents) → t ≤ mid → there t contents → here t contents) where
  -- the second run begins where the first has ended
  met : (from : ℕ) (made second doubt : List Commit) → from ≤ mid → ((t : ℕ) (contents : Contents) → from ≤ t → t ≤ mid → here t contents → StandsForBeginning g E X made [] contents)
      → AcknowledgesFrom g E X there last mid made second doubt → AcknowledgesFrom g E X there last from made second doubt
  met from made [] doubt first one two = λ t contents after before was. elim (cases_lt mid t) [
    | inl late ↦ two t contents (omega (arith, late)) before was
    | inr early ↦ more_pending g E X made doubt contents (one t contents after early (stays t contents early was))
  ]
  met from made (commit ∷ second) doubt first one two = (
    two.0,
    omega (arith, first, two.1),
    two.2,
    λ t contents after before was. elim (cases_lt mid t) [
      | inl late ↦ two.3 t contents (omega (arith, late)) before was
      | inr early ↦ more_pending g E X made (commit ∷ []) contents (one t contents after early (stays t contents early was))
    ],
    two.4,
  )

  pub joined : (from : ℕ) (made first second doubt : List Commit) → from ≤ mid → AcknowledgesFrom g E X here mid from made first [] → AcknowledgesFrom g E X there last mid (made ++ first) second doubt
      → AcknowledgesFrom g E X there last from made (first ++ second) doubt
  joined from made [] second doubt early one two = met from made second doubt early one (subst (λ (commits : List Commit). AcknowledgesFrom g E X there last mid commits second doubt) (append-nil made) two)
  joined from made (commit ∷ first) second doubt early one two = (
    one.0,
    one.1,
    omega (arith, one.2, later),
    λ t contents after before was. one.3 t contents after before (stays t contents (omega (arith, before, one.2)) was),
    joined one.0 (made ++ commit ∷ []) first second doubt one.2 one.4
        (subst (λ (commits : List Commit). AcknowledgesFrom g E X there last mid commits second doubt) (sym (append_assoc made (commit ∷ []) first)) two),
  )
