-- A key that is read, and its components.
use Rattle.std.specs.Prelude.{◌≡◌, List, [], ◌∷◌, ◌++◌}
use Rattle.std.specs.List.{flat_map}
use Rattle.steptree.specs.Tree.{NamedExpression}
use Rattle.syntax.specs.declared.keys.NamedKey.{NamedKey}
use Rattle.syntax.specs.declared.token.Symbol.{Symbol}
use Rattle.syntax.specs.Tokens.{Spot}
use Rattle.syntax.specs.Grammar.{Sum, Sums, no_sums, sums, Key}
use Rattle.syntax.specs.Limits.{sum_limits, sums_limits, key_limits}
use Rattle.syntax.specs.Spelled.{a_sign, named, sum_pieces, sums_pieces}
use Rattle.syntax.specs.Tree.{IsSum, AreAll, AreSums, IsKey}
use Rattle.syntax.specs.Expected.{Kind, never, whole, components, more_components, key_rest, closing}
use Rattle.syntax.specs.Parsed.{Spells, Goes, Reads}

-- the components after the name of a key
pub record AreComponents (expressions : List NamedExpression) (before after : List Spot) : Type 0 where
  pub sums : Sums
  pub reads : Reads (components ∷ []) [] (sums_pieces sums) before after
  pub are : AreSums sums expressions
  pub within : sums_limits sums ≡ []

abbrev pub sums_of : List Sum → Sums
sums_of [] = no_sums
sums_of (first ∷ more) = sums first more

-- before the next component, these are read
pub record ComponentsSoFar (start now : List Spot) (expressions : List NamedExpression) : Type 0 where
  pub read : List Sum
  pub goes : Goes (components ∷ []) (whole never ∷ more_components ∷ []) start now
  pub spells : (next : Sum) (after : List Spot) → Spells (sum_pieces next) now after → Spells (sums_pieces (sums_of (read ++ next ∷ []))) start after
  pub are : AreAll IsSum read expressions
  pub within : flat_map sum_limits read ≡ []

-- the rest of a key, after its opening bracket
pub record IsKeyRest (kind : Kind) (tree : NamedKey) (before after : List Spot) : Type 0 where
  pub key : Key
  pub reads : Reads (key_rest kind) [] (named key.collection ∷ sums_pieces key.components ++ a_sign (closing kind)) before after
  pub is : IsKey key tree.collection tree.components.items
  pub within : key_limits key ≡ []

-- this holds of the kind of collections whose keys are closed by this bracket
abbrev pub ClosedBy : Symbol → (Kind → Type 0) → Type 0
ClosedBy close Holds = (kind : Kind) → close ≡ closing kind → Holds kind
