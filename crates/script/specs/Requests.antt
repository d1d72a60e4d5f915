-- What the tokens of a line ask for: their form, and what the program keeps of it. Signs are given by the codes that `Forms` lists.
use Rattle.std.specs.Prelude.{◌≡◌, ⊤, ◌<◌, ℕ, ℤ, Bool, MatchBool, MatchOption, ◌==◌, List, [], ◌∷◌, ◌++◌, length, Option, Some, None, FitsSigned, if◌then◌else◌, codes}
use Rattle.std.specs.Int.{w64}
use Rattle.std.specs.List.{AllByRecursion}
use Rattle.steptree.specs.Names.{is_text}
use Rattle.terms.specs.declared.key.TheConstants.{MAX_COMPONENTS}
use Rattle.script.specs.Tokens.{Lexeme, word, number, sign, unknown}
use Rattle.script.specs.Forms.{Form, HasName, IsName, put, tag, get, run}
use Rattle.script.specs.declared.key.WrittenKey.{WrittenKey}
use Rattle.script.specs.declared.key.WrittenKey.TheVariants.{Whole, TooLong, OutOfRange}
use Rattle.script.specs.declared.request.NamedKey.{NamedKey}
use Rattle.script.specs.declared.request.Request.{Request}
use Rattle.script.specs.declared.request.Request.TheVariants as request

-- ---- the form of the tokens

-- a key, and the tokens after its bracket
abbrev pub KeyAndMore : Type 0
KeyAndMore = Option (List ℤ × List Lexeme)

abbrev pub with_component : ℤ → KeyAndMore → KeyAndMore
with_component component None = None
with_component component (Some found) = Some (component ∷ found.0, found.1)

abbrev pub with_components : List ℤ → KeyAndMore → KeyAndMore
with_components components None = None
with_components components (Some found) = Some (components ++ found.0, found.1)

-- the tokens after this sign, if it is the first token; in the same way after a word, and after a number
abbrev pub sign_of : ℕ → List Lexeme → Option (List Lexeme)
sign_of mark [] = None
sign_of mark (word text ∷ more) = None
sign_of mark (number value ∷ more) = None
sign_of mark (sign byte ∷ more) = if byte == mark then Some more else None
sign_of mark (unknown ∷ more) = None

abbrev pub word_of : List Lexeme → Option (List ℕ × List Lexeme)
word_of [] = None
word_of (word text ∷ more) = Some (text, more)
word_of (number value ∷ more) = None
word_of (sign byte ∷ more) = None
word_of (unknown ∷ more) = None

abbrev pub number_of : List Lexeme → Option (ℤ × List Lexeme)
number_of [] = None
number_of (word text ∷ more) = None
number_of (number value ∷ more) = Some (value, more)
number_of (sign byte ∷ more) = None
number_of (unknown ∷ more) = None

-- components, with this mark before the first and a comma before each of the others, and then the bracket
abbrev pub key_of : ℕ → ℕ → List Lexeme → KeyAndMore
key_of mark close [] = None
key_of mark close (word text ∷ more) = None
key_of mark close (number value ∷ more) = None
key_of mark close (unknown ∷ more) = None
key_of mark close (sign byte ∷ []) = if byte == close then Some ([], []) else None
key_of mark close (sign byte ∷ word text ∷ more) = if byte == close then Some ([], word text ∷ more) else None
key_of mark close (sign byte ∷ sign other ∷ more) = if byte == close then Some ([], sign other ∷ more) else None
key_of mark close (sign byte ∷ unknown ∷ more) = if byte == close then Some ([], unknown ∷ more) else None
key_of mark close (sign byte ∷ number value ∷ more) =
    if byte == close then Some ([], number value ∷ more) else (if byte == mark then with_component value (key_of 44 close more) else None)

-- a name and a key in brackets, and the tokens after them
abbrev pub Named : Type 0
Named = List ℕ × List ℤ × List Lexeme

abbrev pub with_name : List ℕ → KeyAndMore → Option Named
with_name name None = None
with_name name (Some found) = Some (name, found.0, found.1)

abbrev pub named_word : ℕ → Option (List ℕ × List Lexeme) → Option Named
named_word close None = None
named_word close (Some found) = with_name found.0 (key_of 58 close found.1)

abbrev pub named_behind : ℕ → Option (List Lexeme) → Option Named
named_behind close None = None
named_behind close (Some more) = named_word close (word_of more)

abbrev pub named_of : ℕ → ℕ → List Lexeme → Option Named
named_of open' close tokens = named_behind close (sign_of open' tokens)

-- the form, if no token is left
abbrev pub ended : Form → List Lexeme → Option Form
ended form [] = Some form
ended form (first ∷ more) = None

-- the form of a put, after its key
abbrev pub put_value : List ℕ → List ℤ → Option (ℤ × List Lexeme) → Option Form
put_value name key None = None
put_value name key (Some found) = ended (put name key found.0) found.1

abbrev pub put_behind : List ℕ → List ℤ → Option (List Lexeme) → Option Form
put_behind name key None = None
put_behind name key (Some more) = put_value name key (number_of more)

-- the form of a put, of a tag and of a get, from its name and key
abbrev pub put_named : Option Named → Option Form
put_named None = None
put_named (Some named) = put_behind named.0 named.1 (sign_of 61 named.2)

abbrev pub tag_named : Option Named → Option Form
tag_named None = None
tag_named (Some named) = ended (tag named.0 named.1) named.2

abbrev pub get_named : Option Named → Option Form
get_named None = None
get_named (Some named) = ended (get named.0 named.1) named.2

-- the form, from the tokens after its first word
abbrev pub put_of : List Lexeme → Option Form
put_of tokens = put_named (named_of 91 93 tokens)

abbrev pub tag_of : List Lexeme → Option Form
tag_of tokens = tag_named (named_of 60 62 tokens)

abbrev pub get_of : List Lexeme → Option Form
get_of tokens = get_named (named_of 91 93 tokens)

abbrev pub form_by : List ℕ → List Lexeme → Option Form
form_by verb more = if is_text verb (codes "put") then put_of more
    else (if is_text verb (codes "tag") then tag_of more
    else (if is_text verb (codes "get") then get_of more
    else (if is_text verb (codes "run") then ended run more else None)))

abbrev pub form_of : List Lexeme → Option Form
form_of [] = None
form_of (word verb ∷ more) = form_by verb more
form_of (number value ∷ more) = None
form_of (sign byte ∷ more) = None
form_of (unknown ∷ more) = None

-- ---- what the program keeps of it

-- what was read stands for these components
abbrev pub HasRead : WrittenKey → List ℤ → Type 0
HasRead (Whole key) components = (key ≡ components) × AllByRecursion (FitsSigned w64) components
HasRead TooLong components = (MAX_COMPONENTS < length components) × AllByRecursion (FitsSigned w64) components
HasRead OutOfRange components = AllByRecursion (FitsSigned w64) components → ⊥

-- what was read stands for this number; it is `None` if the number does not fit in 64 bits
abbrev pub HasValue : Option ℤ → ℤ → Type 0
HasValue None value = FitsSigned w64 value → ⊥
HasValue (Some found) value = (found ≡ value) × FitsSigned w64 value

-- whether this sign is the first token, and is taken; and a number, if it is
abbrev pub TakesSign : ℕ → Bool → List Lexeme → List Lexeme → Type 0
TakesSign mark taken before after = MatchBool taken (sign_of mark before ≡ Some after) ((sign_of mark before ≡ None) × (after ≡ before))

abbrev pub TakesNumber : Option (Option ℤ) → List Lexeme → List Lexeme → Type 0
TakesNumber taken before after = MatchOption taken (number_of before ≡ None) (λ read. (value : ℤ) × (number_of before ≡ Some (value, after)) × HasValue read value)

-- what was read stands for one component more than before
abbrev pub HasReadMore : WrittenKey → Option ℤ → WrittenKey → Type 0
HasReadMore old component new = (components : List ℤ) → (value : ℤ) → HasRead old components → HasValue component value → HasRead new (components ++ value ∷ [])

-- the request is this form
abbrev pub IsRequest : Request → Form → Type 0
IsRequest (request.Put name key value) (put n k v) = (name.now ≡ n) × HasRead key k × HasValue value v
IsRequest (request.Tag name key) (tag n k) = (name.now ≡ n) × HasRead key k
IsRequest (request.Get name key) (get n k) = (name.now ≡ n) × HasRead key k
IsRequest request.Run run = ⊤
IsRequest request form = ⊥

-- the request for the tokens' form, if they have one whose name is not reserved; otherwise `None`
abbrev pub Answers : Option Request → Option Form → Type 0
Answers None found = (form : Form) → found ≡ Some form → HasName form → ⊥
Answers (Some request) found = (form : Form) × (found ≡ Some form) × HasName form × IsRequest request form

-- what was read of the key that the tokens begin with, and the tokens after it
abbrev pub AnswersKey : Option WrittenKey → KeyAndMore → List Lexeme → Type 0
AnswersKey None found after = found ≡ None
AnswersKey (Some read) found after = (key : List ℤ) × (found ≡ Some (key, after)) × HasRead read key

-- what was read of a name with a key, and the tokens after them
abbrev pub AnswersNamed : Option NamedKey → Option Named → List Lexeme → Type 0
AnswersNamed None found after = (named : Named) → found ≡ Some named → IsName named.0 → ⊥
AnswersNamed (Some read) found after = (key : List ℤ) × (found ≡ Some (read.name.now, key, after)) × IsName read.name.now × HasRead read.key key

-- the same, if no token is left after them
abbrev pub AnswersLast : Option NamedKey → Option Named → Type 0
AnswersLast None found = (named : Named) → found ≡ Some named → named.2 ≡ [] → IsName named.0 → ⊥
AnswersLast (Some read) found = (key : List ℤ) × (found ≡ Some (read.name.now, key, [])) × IsName read.name.now × HasRead read.key key

-- the request for a put at this name and key, whose value the tokens have
abbrev pub AnswersPut : NamedKey → List Lexeme → Option Request → Type 0
AnswersPut named tokens result = (key : List ℤ) → HasRead named.key key → Answers result (put_behind named.name.now key (sign_of 61 tokens))
