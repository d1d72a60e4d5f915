-- Steps that are read.
use Rattle.std.specs.Prelude.{◌≡◌, ℕ, List, [], ◌∷◌, ◌++◌, drop, length}
use Rattle.std.specs.List.{flat_map}
use Rattle.steptree.specs.declared.sheet.TheConstants.{MOST_COLLECTIONS}
use Rattle.steptree.specs.Simple.{NamedBlock}
use Rattle.steptree.specs.declared.step.Step.{Step}
use Rattle.syntax.specs.declared.token.Symbol.TheVariants as sign
use Rattle.syntax.specs.Tokens.{Spot}
use Rattle.syntax.specs.Grammar.{Statements, StepText}
use Rattle.syntax.specs.Limits.{one_more, statements_limits}
use Rattle.syntax.specs.GraphTexts.{step_limits, steps_limits, step_pieces, IsStep}
use Rattle.syntax.specs.Spelled.{a_word, in_braces, statements_pieces}
use Rattle.syntax.specs.Tree.{AreAll, AreStatements}
use Rattle.syntax.specs.Expected.{Part, Expected, exactly, keyword, statements, step_name, parameters, step_body, steps}
use Rattle.syntax.specs.Statements.{Own, own_pieces, own_limits, is_own, part_word}
use Rattle.syntax.specs.Parsed.{Spells, Goes, Reads}

-- ---- steps

-- a part of a step, with its word
abbrev pub part_expected : Part → List Expected
part_expected part = keyword (part_word part) ∷ exactly sign.OpenBrace ∷ statements part 0 ∷ exactly sign.CloseBrace ∷ []

-- such a part, and `tree` is its tree
pub record IsPartRead (part : Part) (tree : NamedBlock) (before after : List Spot) : Type 0 where
  pub block : Statements (Own part)
  pub reads : Reads (part_expected part) [] (a_word (part_word part) ++ in_braces (statements_pieces (own_pieces part) block)) before after
  pub are : AreStatements (is_own part) block tree
  pub within : statements_limits (own_limits part) 0 block ≡ []

-- a step after its word, with `count` steps before it
abbrev pub step_expected : ℕ → List Expected
step_expected count = step_name count ∷ exactly sign.OpenRound ∷ parameters ∷ step_body

-- such a step, within the limits
pub record IsStepRead (count : ℕ) (step : Step) (before after : List Spot) : Type 0 where
  pub text : StepText
  pub reads : Reads (step_expected count) [] (drop 1 (step_pieces text)) before after
  pub is : IsStep text step
  pub within : one_more MOST_COLLECTIONS count text.name.1 ++ step_limits text ≡ []

-- these steps are read
pub record StepsSoFar (start now : List Spot) (them : List Step) : Type 0 where
  pub texts : List StepText
  pub goes : Goes (steps 0 ∷ []) (steps (length them) ∷ []) start now
  pub spells : Spells (flat_map step_pieces texts) start now
  pub are : AreAll IsStep texts them
  pub within : steps_limits 0 texts ≡ []

-- all steps from here on
pub record AreStepsRead (them : List Step) (before after : List Spot) : Type 0 where
  pub texts : List StepText
  pub reads : Reads (steps 0 ∷ []) [] (flat_map step_pieces texts) before after
  pub are : AreAll IsStep texts them
  pub within : steps_limits 0 texts ≡ []
