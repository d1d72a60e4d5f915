-- Lists of the names of a step.
use Rattle.std.specs.Prelude.{◌≡◌, ◌<◌, ◌==◌, ℕ, suc, Bool, true, false, List, [], ◌∷◌, ◌++◌, length, Option, Some, if◌then◌else◌}
use Rattle.std.specs.List.{flat_map}
use Rattle.steptree.specs.declared.step.Name.{Name}
use Rattle.syntax.specs.declared.stop.Stop.{Stop}
use Rattle.syntax.specs.declared.token.Symbol.{Symbol}
use Rattle.syntax.specs.declared.token.Symbol.TheVariants as sign
use Rattle.syntax.specs.Tokens.{Lexeme, symbol, Spot}
use Rattle.syntax.specs.Grammar.{Position, Named, Names}
use Rattle.syntax.specs.Limits.{name_limits}
use Rattle.syntax.specs.GraphTexts.{all_names, names_pieces, parameters_pieces, variables_pieces}
use Rattle.syntax.specs.Spelled.{a_sign, named}
use Rattle.syntax.specs.Tree.{IsName, AreAll}
use Rattle.syntax.specs.Expected.{Expected, exactly, Move, taken, wrong, look, sign_number, parameters, parameter, variables}
use Rattle.syntax.specs.NameLists.{NameMayCome}
use Rattle.syntax.specs.ComponentNames.{pieces_of}
use Rattle.syntax.specs.Parsed.{Spells, Goes, Reads, Stops}

-- after a name: a comma and then `next`, or the sign `close` and then `end`
abbrev pub look_on : Symbol → List Expected → List Expected → Lexeme → Move
look_on close next end (symbol it) = if sign_number sign.Comma == sign_number it then taken next else if sign_number close == sign_number it then taken end else wrong
look_on close next end _ = wrong

-- `first` expects a comma or this sign
abbrev pub MayGoOn : Symbol → Expected → List Expected → List Expected → Type 0
MayGoOn close first next end = (lexeme : Lexeme) (place : Position) → look first lexeme place ≡ look_on close next end lexeme

-- whether a comma was taken, or else this sign
abbrev pub TakesOn : Symbol → Bool → List Spot → List Spot → Type 0
TakesOn close true before after = (first : Expected) (next end : List Expected) → MayGoOn close first next end → Reads (first ∷ []) next (a_sign sign.Comma) before after
TakesOn close false before after = (first : Expected) (next end : List Expected) → MayGoOn close first next end → Reads (first ∷ []) end (a_sign close) before after

-- neither comes next, and the parser stops for this cause
abbrev pub StopsOn : Symbol → List Spot → List Spot → Stop → Type 0
StopsOn close before after cause = (first : Expected) (next end : List Expected) → MayGoOn close first next end → Stops (first ∷ []) before after cause

-- a list of at most `most` names, up to this sign: what is expected at a name, by the number of names before it; after a name, by
-- the number of names so far; and after the list
pub record NameList (most : ℕ) (close : Symbol) : Type 0 where
  pub name_at : ℕ → Expected
  pub behind_at : ℕ → Expected
  pub end : ℕ → List Expected
  pub limits : ℕ → Position → List Position
  pub may_come : (count : ℕ) → NameMayCome (name_at count) (limits count) (behind_at (suc count) ∷ [])
  pub goes_on : (count : ℕ) → MayGoOn close (behind_at count) (name_at count ∷ []) (end count)
  pub room : (count : ℕ) (place : Position) → count < most → limits count place ≡ []
  pub full : (place : Position) → limits most place ≡ place ∷ []

-- before the next name of such a list, these are read
pub record ListSoFar (most : ℕ) (close : Symbol) (start now : List Spot) (them : List Name) (list : NameList most close) : Type 0 where
  pub read : List Named
  pub goes : Goes (list.name_at 0 ∷ []) (list.name_at (length them) ∷ []) start now
  pub spells : (next : Named) (after : List Spot) → Spells (named next ∷ []) now after → Spells (pieces_of (read ++ next ∷ [])) start after
  pub are : AreAll IsName read them
  pub within : flat_map name_limits read ≡ []

-- a list of names, with the sign after it
pub record IsListRead (most : ℕ) (close : Symbol) (them : List Name) (before after : List Spot) (list : NameList most close) : Type 0 where
  pub names : Names
  pub reads : Reads (list.name_at 0 ∷ []) (list.end (length them)) (names_pieces names ++ a_sign close) before after
  pub are : AreAll IsName (all_names (Some names)) them
  pub within : flat_map name_limits (all_names (Some names)) ≡ []

-- the same of whichever such list may come; or the parser stops in it
abbrev pub AreListed : ℕ → Symbol → List Name → List Spot → List Spot → Type 0
AreListed most close them before after = (list : NameList most close) → IsListRead most close them before after list

abbrev pub StopsInList : ℕ → Symbol → List Spot → List Spot → Stop → Type 0
StopsInList most close before after stop = (list : NameList most close) → Stops (list.name_at 0 ∷ []) before after stop

-- whether a step has no parameters, and the bracket after them is taken; if not, a name may come
abbrev pub NoParameters : Bool → List Spot → List Spot → Type 0
NoParameters true before after = Reads (parameters ∷ []) (exactly sign.OpenBrace ∷ variables 0 ∷ []) (a_sign sign.CloseRound) before after
NoParameters false before after = (after ≡ before) × Goes (parameters ∷ []) (parameter 0 ∷ []) before before

-- the parameters of a step, with the bracket after them
pub record AreParameters (them : List Name) (before after : List Spot) : Type 0 where
  pub names : Option Names
  pub reads : Reads (parameters ∷ []) (exactly sign.OpenBrace ∷ variables (length them) ∷ []) (parameters_pieces names ++ a_sign sign.CloseRound) before after
  pub are : AreAll IsName (all_names names) them
  pub within : flat_map name_limits (all_names names) ≡ []

-- the variables of a step, with `count` of its names before them
pub record AreVariables (count : ℕ) (them : List Name) (before after : List Spot) : Type 0 where
  pub names : Option Names
  pub reads : Reads (variables count ∷ []) [] (variables_pieces names) before after
  pub are : AreAll IsName (all_names names) them
  pub within : flat_map name_limits (all_names names) ≡ []
