-- The limits on a tree.
use Rattle.std.specs.Prelude.{◌≤◌, length}
use Rattle.std.specs.List.{AllByRecursion}
use Rattle.terms.specs.declared.key.TheConstants.{MAX_COMPONENTS}
use Rattle.steptree.specs.declared.sheet.TheConstants.{MOST_COLLECTIONS}
use Rattle.steptree.specs.declared.slot.TheConstants.{MOST_NAMES}
use Rattle.steptree.specs.declared.step.Step.{Step as NamedStep}
use Rattle.steptree.specs.Names.{names_of}
use Rattle.steptree.specs.Limits.{AreFew}
use Rattle.syntax.specs.declared.tree.Tree.{Tree}
use Rattle.graph.specs.Tree.{items_of, tags_of}

-- not too many names in the step, and not too many of them parameters
pub record IsSmallStep (step : NamedStep) : Type 0 where
  pub names : length (names_of step) ≤ MOST_NAMES
  pub parameters : length step.parameters.items ≤ MAX_COMPONENTS

-- not too many collections of each kind, none whose keys have too many components, and only small steps
pub record IsSmall (tree : Tree) : Type 0 where
  pub items : AreFew (items_of tree.declarations.items)
  pub tags : AreFew (tags_of tree.declarations.items)
  pub few : length tree.steps.items ≤ MOST_COLLECTIONS
  pub steps : AllByRecursion IsSmallStep tree.steps.items
