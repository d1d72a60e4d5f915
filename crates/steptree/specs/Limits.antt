-- The limits that a sheet and a step keep to.
use Rattle.std.specs.Prelude.{◌≤◌, List, length, All}
use Rattle.terms.specs.declared.key.TheConstants.{MAX_COMPONENTS}
use Rattle.steptree.specs.declared.slot.TheConstants.{MOST_NAMES}
use Rattle.steptree.specs.declared.sheet.TheConstants.{MOST_COLLECTIONS}
use Rattle.steptree.specs.Nameable.{Collection, Nameable}
use Rattle.steptree.specs.declared.step.Step.{Step}
use Rattle.steptree.specs.Names.{names_of}

-- not too many collections, and no collection whose keys have too many components
pub record AreFew (collections : List Collection) : Type 0 where
  pub few : length collections ≤ MOST_COLLECTIONS
  pub short : All (λ collection. collection.components ≤ MAX_COMPONENTS) collections

pub record IsWithinLimits (sheet : Nameable) (step : Step) : Type 0 where
  pub items : AreFew sheet.items
  pub tags : AreFew sheet.tags
  pub names : length (names_of step) ≤ MOST_NAMES
  pub parameters : length step.parameters.items ≤ MAX_COMPONENTS
