-- The names of a declaration's components.
use Rattle.std.specs.Prelude.{◌≡◌, ℕ, List, [], ◌∷◌, ◌++◌, length, Some}
use Rattle.std.specs.List.{flat_map}
use Rattle.terms.specs.declared.key.TheConstants.{MAX_COMPONENTS}
use Rattle.syntax.specs.Tokens.{Spot}
use Rattle.syntax.specs.Grammar.{Named, Names}
use Rattle.syntax.specs.Limits.{name_limits, names_behind}
use Rattle.syntax.specs.GraphTexts.{all_names, names_pieces}
use Rattle.syntax.specs.Spelled.{Piece, named}
use Rattle.syntax.specs.Expected.{component_name}
use Rattle.syntax.specs.Parsed.{Spells, Goes, Reads}

-- `count` names, and not too many
pub record AreNamed (count : ℕ) (before after : List Spot) : Type 0 where
  pub names : Names
  pub reads : Reads (component_name 0 ∷ []) [] (names_pieces names) before after
  pub counted : count ≡ length (all_names (Some names))
  pub within : flat_map name_limits (all_names (Some names)) ++ names_behind MAX_COMPONENTS (all_names (Some names)) ≡ []

-- names one after another
abbrev pub pieces_of : List Named → List Piece
pieces_of [] = []
pieces_of (first ∷ more) = names_pieces (record { first = first; more = more })

-- before the next name, with `count` names read
pub record NamesSoFar (start now : List Spot) (count : ℕ) : Type 0 where
  pub read : List Named
  pub counted : count ≡ length read
  pub goes : Goes (component_name 0 ∷ []) (component_name count ∷ []) start now
  pub spells : (next : Named) (after : List Spot) → Spells (named next ∷ []) now after → Spells (pieces_of (read ++ next ∷ [])) start after
  pub within : flat_map name_limits read ≡ []
