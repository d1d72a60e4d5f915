-- A tree that is read within the limits is small.
use Rattle.std.proofs.Common.{◌≡◌, ◌≤◌, ◌<◌, ◌+◌, ◌-◌, ℕ, suc, List, [], ◌∷◌, ◌++◌, length, drop, ap, ◌∙◌, arith, length-append, length-drop}
use Rattle.std.proofs.lemmas.Bool.Decides.{nat_tests}
use Rattle.std.specs.List.{AllByRecursion}
use Rattle.std.proofs.lemmas.List.{length-map}
use Rattle.terms.specs.declared.key.TheConstants.{MAX_COMPONENTS}
use Rattle.steptree.specs.declared.sheet.TheConstants.{MOST_COLLECTIONS}
use Rattle.steptree.specs.declared.slot.TheConstants.{MOST_NAMES}
use Rattle.steptree.specs.declared.step.Name.{Name}
use Rattle.steptree.specs.declared.step.Step.{Step as NamedStep}
use Rattle.steptree.specs.Nameable.{Collection}
use Rattle.syntax.specs.declared.tree.Declaration.{Declaration as Declared}
use Rattle.syntax.specs.declared.tree.Declaration.TheVariants as declared
use Rattle.syntax.specs.declared.tree.Tree.{Tree}
use Rattle.syntax.specs.Grammar.{Position, Named, Declaration, item_declared, tag_declared, StepText, GraphText}
use Rattle.syntax.specs.Limits.{one_more, names_behind}
use Rattle.syntax.specs.GraphTexts.{IsWithin, all_names, declarations_limits, step_names, step_limits, steps_limits, IsDeclaration, IsStep, IsTree}
use Rattle.syntax.specs.Tree.{AreAll, IsName}
use Rattle.graph.specs.Small.{IsSmallStep, IsSmall}
use Rattle.graph.specs.Tree.{items_of, tags_of}
use Rattle.graph.proofs.Faultless.{first_empty, second_empty}
use Rattle.graph.proofs.Lists.{as_many}
use Rattle.std.proofs.lemmas.List.Elements.{All-from_recursion}

-- ---- limits that are kept

pub room : (most before : ℕ) (place : Position) → one_more most before place ≡ [] → before < most
room most before place none = grind (arith, nat_tests)

pub few : (most : ℕ) (names : List Named) → names_behind most names ≡ [] → length names ≤ most
few most names none =
    let many : length (names_behind most names) ≡ length names - most = length-map (drop most names) (λ (it : Named). it.1) ∙ length-drop most names in
    let zero_many : length (names_behind most names) ≡ 0 = ap (λ (l : List Position). length l) none in
    omega (arith, many, zero_many)

-- ---- declarations

abbrev Short : Collection → Type 0
Short collection = collection.components ≤ MAX_COMPONENTS

record AreFew (items tags : ℕ) (ds : List Declared) : Type 0 where
  few_items : items + length (items_of ds) ≤ MOST_COLLECTIONS
  few_tags : tags + length (tags_of ds) ≤ MOST_COLLECTIONS
  short_items : AllByRecursion Short (items_of ds)
  short_tags : AllByRecursion Short (tags_of ds)

declarations : (items tags : ℕ) (texts : List Declaration) (ds : List Declared) → items ≤ MOST_COLLECTIONS → tags ≤ MOST_COLLECTIONS → declarations_limits items tags texts ≡ []
    → AreAll IsDeclaration texts ds → AreFew items tags ds
declarations items tags [] [] one two none all = record { few_items = omega arith; few_tags = omega arith; short_items = tt; short_tags = tt }
declarations items tags (item_declared it components ∷ texts) (declared.Item name number ∷ ds) one two none all =
    let fits = room MOST_COLLECTIONS items it.1 (search (first_empty, second_empty)) in
    let rest = declarations (suc items) tags texts ds (omega (arith, fits)) two (search second_empty) all.1 in
    let few_own = few MAX_COMPONENTS (all_names components) (search (first_empty, second_empty)) in
    record { few_items = omega (arith, rest.few_items); few_tags = rest.few_tags; short_items = (omega (arith, all.0.1, few_own), rest.short_items); short_tags = rest.short_tags }
declarations items tags (tag_declared it components ∷ texts) (declared.Tag name number ∷ ds) one two none all =
    let fits = room MOST_COLLECTIONS tags it.1 (search (first_empty, second_empty)) in
    let rest = declarations items (suc tags) texts ds one (omega (arith, fits)) (search second_empty) all.1 in
    let few_own = few MAX_COMPONENTS (all_names components) (search (first_empty, second_empty)) in
    record { few_tags = omega (arith, rest.few_tags); few_items = rest.few_items; short_tags = (omega (arith, all.0.1, few_own), rest.short_tags); short_items = rest.short_items }
declarations _ _ _ _ _ _ _ all = absurd (assumption)

-- ---- steps

pub small_step : (text : StepText) (step : NamedStep) → step_limits text ≡ [] → IsStep text step → IsSmallStep step
small_step text step none is =
    let parameters = few MAX_COMPONENTS (all_names text.parameters) (search (first_empty, second_empty)) in
    let names = few MOST_NAMES (step_names text) (search (first_empty, second_empty)) in
    let one = as_many IsName (all_names text.parameters) step.parameters.items is.parameters in
    let two = as_many IsName (all_names text.variables) step.variables.items is.variables in
    let sum = length-append (all_names text.parameters) (all_names text.variables) in
    let all = length-map (step.parameters.items ++ step.variables.items) (λ (name : Name). name.text.now) ∙ length-append step.parameters.items step.variables.items in
    record { names = omega (arith, names, one, two, sum, all); parameters = omega (arith, parameters, one) }

record AreFewSteps (before : ℕ) (steps : List NamedStep) : Type 0 where
  few_steps : before + length steps ≤ MOST_COLLECTIONS
  small : AllByRecursion IsSmallStep steps

few_small : (before : ℕ) (texts : List StepText) (steps : List NamedStep) → before ≤ MOST_COLLECTIONS → steps_limits before texts ≡ [] → AreAll IsStep texts steps → AreFewSteps before steps
few_small before [] [] one none all = record { few_steps = omega arith; small = tt }
few_small before (text ∷ texts) (step ∷ steps) one none all =
    let fits = room MOST_COLLECTIONS before text.name.1 (search (first_empty, second_empty)) in
    let rest = few_small (suc before) texts steps (omega (arith, fits)) (search second_empty) all.1 in
    record { few_steps = omega (arith, rest.few_steps); small = (small_step text step (search (first_empty, second_empty)) all.0, rest.small) }
few_small _ _ _ _ _ all = absurd (assumption)

-- ---- trees

pub is_small : (graph : GraphText) (tree : Tree) → IsTree graph tree → IsWithin graph → IsSmall tree
is_small graph tree is within =
    let ds = declarations 0 0 graph.declarations tree.declarations.items (omega arith) (omega arith) (search (first_empty, second_empty)) is.declarations in
    let steps = few_small 0 graph.steps tree.steps.items (omega arith) (search (first_empty, second_empty)) is.steps in
    record {
      items = record { few = omega (arith, ds.few_items); short = All-from_recursion Short (items_of tree.declarations.items) ds.short_items };
      tags = record { few = omega (arith, ds.few_tags); short = All-from_recursion Short (tags_of tree.declarations.items) ds.short_tags };
      few = omega (arith, steps.few_steps);
      steps = steps.small;
    }
