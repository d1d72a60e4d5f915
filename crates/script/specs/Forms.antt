-- What a line may ask for, as it is written: by names, and by integers of any size. A sign is given by the code of its character:
-- `[` is 91, `]` 93, `<` 60, `>` 62, `:` 58, `,` 44 and `=` 61.
use Rattle.std.specs.Prelude.{◌≡◌, ◌≢◌, ⊤, ℕ, ℤ, List, [], ◌∷◌, ◌++◌, codes}
use Rattle.syntax.specs.declared.token.Word.{Word}
use Rattle.syntax.specs.Tokens.{word_text}
use Rattle.script.specs.Tokens.{AreTokens, Lexeme, word, number, sign}

-- a put of an item, a put of a tag, or a get of an item, each with the name of its collection and the components of its key; or a run
pub data Form : Type 0 where
  put : List ℕ → List ℤ → ℤ → Form
  tag : List ℕ → List ℤ → Form
  get : List ℕ → List ℤ → Form
  run : Form

-- further components, and the bracket after them
abbrev pub more_tokens : List ℤ → ℕ → List Lexeme
more_tokens [] close = sign close ∷ []
more_tokens (component ∷ more) close = sign 44 ∷ number component ∷ more_tokens more close

-- the components of a key after a colon, if there are any, and the bracket after them
abbrev pub key_tokens : List ℤ → ℕ → List Lexeme
key_tokens [] close = sign close ∷ []
key_tokens (component ∷ more) close = sign 58 ∷ number component ∷ more_tokens more close

-- `put [c: k, ..] = v`, `tag <t: k, ..>`, `get [c: k, ..]` and `run`
abbrev pub tokens_of : Form → List Lexeme
tokens_of (put name key value) = word (codes "put") ∷ sign 91 ∷ word name ∷ key_tokens key 93 ++ sign 61 ∷ number value ∷ []
tokens_of (tag name key) = word (codes "tag") ∷ sign 60 ∷ word name ∷ key_tokens key 62
tokens_of (get name key) = word (codes "get") ∷ sign 91 ∷ word name ∷ key_tokens key 93
tokens_of run = word (codes "run") ∷ []

-- a word that is reserved in graph texts is not a name
abbrev pub IsName : List ℕ → Type 0
IsName text = (kept : Word) → text ≢ word_text kept

abbrev pub HasName : Form → Type 0
HasName (put name key value) = IsName name
HasName (tag name key) = IsName name
HasName (get name key) = IsName name
HasName run = ⊤

-- the line is this form
abbrev pub Spells : List ℕ → Form → Type 0
Spells line form = AreTokens line (tokens_of form) × HasName form

-- a line has at most one form
abbrev pub FormsOnce : Type 0
FormsOnce = (line : List ℕ) (one two : Form) → Spells line one → Spells line two → one ≡ two
