-- Lists of names that are read, each with a limit on the number of names.
use Rattle.std.specs.Prelude.{◌≡◌, Bool, true, false, List, [], ◌∷◌}
use Rattle.steptree.specs.declared.step.Name.{Name}
use Rattle.syntax.specs.declared.stop.Stop.{Stop}
use Rattle.syntax.specs.Tokens.{Lexeme, Spot}
use Rattle.syntax.specs.Grammar.{Position}
use Rattle.syntax.specs.Spelled.{named}
use Rattle.syntax.specs.Expected.{Expected, look, look_name}
use Rattle.syntax.specs.Parsed.{Reads, Stops, named_of}

-- `first` expects a name with these limits, and then `more`
abbrev pub NameMayCome : Expected → (Position → List Position) → List Expected → Type 0
NameMayCome first limits more = (lexeme : Lexeme) (place : Position) → look first lexeme place ≡ look_name lexeme place (limits place) more

-- whether the limits leave no room for one more name
abbrev pub IsFull : Bool → (Position → List Position) → Type 0
IsFull false limits = (place : Position) → limits place ≡ []
IsFull true limits = (place : Position) → limits place ≡ place ∷ []

-- a name was taken where one is expected
abbrev pub TakesName : Bool → Name → List Spot → List Spot → Type 0
TakesName full name before after = (first : Expected) (limits : Position → List Position) (more : List Expected) → NameMayCome first limits more → IsFull full limits
    → Reads (first ∷ []) more (named (named_of name) ∷ []) before after

abbrev pub StopsAtName : Bool → List Spot → List Spot → Stop → Type 0
StopsAtName full before after cause = (first : Expected) (limits : Position → List Position) (more : List Expected) → NameMayCome first limits more → IsFull full limits
    → Stops (first ∷ []) before after cause
