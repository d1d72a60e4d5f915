-- The expressions of components, resolved one after another.
use Rattle.std.proofs.Common.{◌≡◌, ◌<◌, ℕ, ◌+◌, List, [], ◌∷◌, ◌++◌, length, drop, get_or, refl, sym, ap, subst, ◌∙◌, append_assoc, length-append}
use Rattle.steptree.specs.declared.checker.CheckFault.{CheckFault}
use Rattle.steptree.specs.Tree.{Expression, NamedExpression}
use Rattle.steptree.specs.CheckFaults.{expression_faults, component_faults}
use Rattle.steptree.specs.Names.{Text}
use Rattle.steptree.specs.Resolved.{IsExpression, AreExpressions}
use Rattle.steptree.specs.Statements.{IsFirst}
use Rattle.steptree.proofs.FirstFaults.{in_front}
use Rattle.steptree.proofs.Lists.{opened, past, with_none, empty_in_front}

module _ (names : List Text) (expressions : List NamedExpression) where
  -- the expressions before the index are resolved, and none of them has a fault
  pub record SoFar (index : ℕ) (front : List Expression) : Type 0 where
    pub resolves : (others : List Expression) → AreExpressions names (drop index expressions) others → AreExpressions names expressions (front ++ others)
    pub as_many : length front ≡ index
    pub no_fault : component_faults names expressions ≡ component_faults names (drop index expressions)

  pub none_yet : SoFar 0 []
  none_yet = record { resolves = λ others are. are; as_many = refl; no_fault = refl }

  module _ (index : ℕ) (front : List Expression) (this : NamedExpression) (within : index < length expressions) (is : this ≡ get_or expressions index this) (so_far : SoFar index front) where
    faults_from : component_faults names expressions ≡ expression_faults names this ++ component_faults names (drop (index + 1) expressions)
    faults_from = so_far.no_fault ∙ ap (component_faults names) (opened expressions index this within is)

    pub one_more : (resolved : Expression) → IsExpression names this resolved → expression_faults names this ≡ [] → SoFar (index + 1) (front ++ resolved ∷ [])
    one_more resolved here none = record {
      resolves = λ others are. subst (AreExpressions names expressions) (sym (append_assoc front (resolved ∷ []) others))
          (so_far.resolves (resolved ∷ others) (subst (λ (l : List NamedExpression). AreExpressions names l (resolved ∷ others)) (sym (opened expressions index this within is)) (here, are)));
      as_many = length-append front (resolved ∷ []) ∙ ap (λ (n : ℕ). n + 1) so_far.as_many;
      no_fault = faults_from ∙ empty_in_front (expression_faults names this) (component_faults names (drop (index + 1) expressions)) none;
    }

    pub first_here : (fault : CheckFault) → IsFirst (expression_faults names this) fault → IsFirst (component_faults names expressions) fault
    first_here fault first = subst (λ (l : List CheckFault). IsFirst l fault) (sym faults_from) (in_front (expression_faults names this) (component_faults names (drop (index + 1) expressions)) fault first)

  pub all_resolved : (index : ℕ) (front : List Expression) → index ≡ length expressions → SoFar index front → AreExpressions names expressions front
  all_resolved index front all so_far =
      subst (AreExpressions names expressions) (with_none front) (so_far.resolves [] (subst (λ (l : List NamedExpression). AreExpressions names l []) (sym (past expressions index all)) tt))

  pub none_at_fault : (index : ℕ) (front : List Expression) → index ≡ length expressions → SoFar index front → component_faults names expressions ≡ []
  none_at_fault index front all so_far = so_far.no_fault ∙ ap (component_faults names) (past expressions index all)
