-- A line has at most one form, and asks for at most one command.
use Rattle.std.proofs.Common.{◌≡◌, ◌≢◌, ℕ, ℤ, List, [], Some, None, length, refl, sym, ap, subst, ◌∙◌}
use Rattle.graph.specs.Graph.{Graph, IsOf}
use Rattle.steptree.specs.Nameable.{Collection}
use Rattle.terms.specs.declared.name.Addr.{Addr}
use Rattle.terms.specs.declared.name.Tag.{Tag}
use Rattle.script.specs.declared.command.Command.{Command}
use Rattle.script.specs.declared.command.Command.TheVariants as command
use Rattle.script.specs.Faults.{Asks, AreInRange, Finds, HasOtherArity, IsFault, HasNumber, IsUnknown, Names, NamesNone, NamesOther}
use Rattle.script.specs.declared.error.ScriptFault.{ScriptFault}
use Rattle.script.specs.declared.error.ScriptFault.TheVariants.{Syntax, Number, UnknownName, Arity, TooLarge}
use Rattle.script.specs.Forms.{Form, put, tag, get, run, Spells, tokens_of}
use Rattle.script.specs.Requests.{form_of}
use Rattle.script.specs.Tokens.{AreSpaces}
use Rattle.script.proofs.FormTokens.{read_back}
use Rattle.script.proofs.Once.{once}

pub same_form : (one two : Form) → tokens_of one ≡ tokens_of two → one ≡ two
same_form one two same =
    let found : Some one ≡ Some two = sym (read_back one) ∙ ap form_of same ∙ read_back two in
    cc

pub one_form : (line : List ℕ) (one two : Form) → Spells line one → Spells line two → one ≡ two
one_form line one two x y = same_form one two (once line (tokens_of one) (tokens_of two) x.0 y.0)

some_token : (form : Form) → [] ≢ tokens_of form
some_token (put name key value) none = absurd (cc)
some_token (tag name key) none = absurd (cc)
some_token (get name key) none = absurd (cc)
some_token run none = absurd (cc)

-- a line without a token is no form
pub no_form : (line : List ℕ) (form : Form) → AreSpaces line → Spells line form → ⊥
no_form line form spaces spells = some_token form (once line [] (tokens_of form) spaces spells.0)

-- ---- commands

same_number : (collections : List Collection) (name : List ℕ) (one two : ℕ) → HasNumber collections name one → HasNumber collections name two → one ≡ two
same_number collections name one two x y =
    let same : Some one ≡ Some two = sym x ∙ y in
    cc

same_address : (collections : List Collection) (name : List ℕ) (key : List ℤ) (one two : Addr) → Finds collections name key one.collection.0 → Finds collections name key two.collection.0
    → one.key ≡ key → two.key ≡ key → one ≡ two
same_address collections name key one two x y k l =
    let numbers : one.collection.0 ≡ two.collection.0 = same_number collections name one.collection.0 two.collection.0 x.0 y.0 in
    let keys : one.key ≡ two.key = k ∙ sym l in
    let address : ℕ → List ℤ → Addr = λ n k. record { collection = record { 0 = n }; key = k } in
    ap (λ (n : ℕ). address n one.key) numbers ∙ ap (λ (k : List ℤ). address two.collection.0 k) keys

same_tag : (collections : List Collection) (name : List ℕ) (key : List ℤ) (one two : Tag) → Finds collections name key one.collection.0 → Finds collections name key two.collection.0
    → one.key ≡ key → two.key ≡ key → one ≡ two
same_tag collections name key one two x y k l =
    let numbers : one.collection.0 ≡ two.collection.0 = same_number collections name one.collection.0 two.collection.0 x.0 y.0 in
    let keys : one.key ≡ two.key = k ∙ sym l in
    let made : ℕ → List ℤ → Tag = λ n k. record { collection = record { 0 = n }; key = k } in
    ap (λ (n : ℕ). made n one.key) numbers ∙ ap (λ (k : List ℤ). made two.collection.0 k) keys

same_command : (g : Graph) (form : Form) (one two : Command) → Names g form one → Names g form two → one ≡ two
same_command g (put name key value) (command.Put a v) (command.Put b w) x y =
    ap (λ (address : Addr). command.Put address v) (same_address g.items name key a b x.0 y.0 x.1 y.1) ∙ ap (λ (number : ℤ). command.Put b number) (x.2 ∙ sym y.2)
same_command g (tag name key) (command.Tag s) (command.Tag t) x y = ap command.Tag (same_tag g.tags name key s t x.0 y.0 x.1 y.1)
same_command g (get name key) (command.Get a) (command.Get b) x y = ap command.Get (same_address g.items name key a b x.0 y.0 x.1 y.1)
same_command g run command.Run command.Run x y = refl
same_command g (put name key value) (command.Put a v) (command.Tag t) x y = absurd y
same_command g (put name key value) (command.Put a v) (command.Get b) x y = absurd y
same_command g (put name key value) (command.Put a v) command.Run x y = absurd y
same_command g (put name key value) (command.Tag t) two x y = absurd x
same_command g (put name key value) (command.Get a) two x y = absurd x
same_command g (put name key value) command.Run two x y = absurd x
same_command g (tag name key) (command.Tag s) (command.Put b w) x y = absurd y
same_command g (tag name key) (command.Tag s) (command.Get b) x y = absurd y
same_command g (tag name key) (command.Tag s) command.Run x y = absurd y
same_command g (tag name key) (command.Put a v) two x y = absurd x
same_command g (tag name key) (command.Get a) two x y = absurd x
same_command g (tag name key) command.Run two x y = absurd x
same_command g (get name key) (command.Get a) (command.Put b w) x y = absurd y
same_command g (get name key) (command.Get a) (command.Tag t) x y = absurd y
same_command g (get name key) (command.Get a) command.Run x y = absurd y
same_command g (get name key) (command.Put a v) two x y = absurd x
same_command g (get name key) (command.Tag t) two x y = absurd x
same_command g (get name key) command.Run two x y = absurd x
same_command g run command.Run (command.Put b w) x y = absurd y
same_command g run command.Run (command.Tag t) x y = absurd y
same_command g run command.Run (command.Get b) x y = absurd y
same_command g run (command.Put a v) two x y = absurd x
same_command g run (command.Tag t) two x y = absurd x
same_command g run (command.Get a) two x y = absurd x

pub one_command : (g : Graph) (line : List ℕ) (one two : Command) → Asks g line one → Asks g line two → one ≡ two
one_command g line one two x y = same_command g x.0 one two x.3 (subst (λ (form : Form). Names g form two) (one_form line y.0 x.0 y.1 x.1) y.3)

-- ---- a form that names a command has no fault

named_once : (collections : List Collection) (name : List ℕ) (number : ℕ) → HasNumber collections name number → IsUnknown collections name → ⊥
named_once collections name number is none =
    let never : Some number ≡ None = sym is ∙ none in
    absurd (cc)

fits_once : (collections : List Collection) (name : List ℕ) (key : List ℤ) (number : ℕ) → Finds collections name key number → HasOtherArity collections name key → ⊥
fits_once collections name key number finds other =
    other.2 (subst (λ (n : ℕ). IsOf collections n (length key)) (same_number collections name number other.0 finds.0 other.1) finds.1)

names_some : (g : Graph) (form : Form) (one : Command) → Names g form one → NamesNone g form → ⊥
names_some g (put name key value) (command.Put a v) x none = named_once g.items name a.collection.0 x.0.0 none
names_some g (put name key value) (command.Tag t) x none = x
names_some g (put name key value) (command.Get a) x none = x
names_some g (put name key value) command.Run x none = x
names_some g (tag name key) (command.Tag t) x none = named_once g.tags name t.collection.0 x.0.0 none
names_some g (tag name key) (command.Put a v) x none = x
names_some g (tag name key) (command.Get a) x none = x
names_some g (tag name key) command.Run x none = x
names_some g (get name key) (command.Get a) x none = named_once g.items name a.collection.0 x.0.0 none
names_some g (get name key) (command.Put a v) x none = x
names_some g (get name key) (command.Tag t) x none = x
names_some g (get name key) command.Run x none = x
names_some g run one x none = none

names_fitting : (g : Graph) (form : Form) (one : Command) → Names g form one → NamesOther g form → ⊥
names_fitting g (put name key value) (command.Put a v) x other = fits_once g.items name key a.collection.0 x.0 other
names_fitting g (put name key value) (command.Tag t) x other = x
names_fitting g (put name key value) (command.Get a) x other = x
names_fitting g (put name key value) command.Run x other = x
names_fitting g (tag name key) (command.Tag t) x other = fits_once g.tags name key t.collection.0 x.0 other
names_fitting g (tag name key) (command.Put a v) x other = x
names_fitting g (tag name key) (command.Get a) x other = x
names_fitting g (tag name key) command.Run x other = x
names_fitting g (get name key) (command.Get a) x other = fits_once g.items name key a.collection.0 x.0 other
names_fitting g (get name key) (command.Put a v) x other = x
names_fitting g (get name key) (command.Tag t) x other = x
names_fitting g (get name key) command.Run x other = x
names_fitting g run one x other = other

pub spaces_without_fault : (g : Graph) (line : List ℕ) (fault : ScriptFault) → AreSpaces line → IsFault g line fault → ⊥
spaces_without_fault g line Syntax spaces h = h.0 spaces
spaces_without_fault g line Number spaces h = no_form line h.0 spaces h.1
spaces_without_fault g line UnknownName spaces h = no_form line h.0 spaces h.1
spaces_without_fault g line Arity spaces h = no_form line h.0 spaces h.1
spaces_without_fault g line TooLarge spaces h = h.2

pub asked_without_fault : (g : Graph) (line : List ℕ) (fault : ScriptFault) (one : Command) → Asks g line one → IsFault g line fault → ⊥
asked_without_fault g line Syntax one x h = h.1 x.0 x.1
asked_without_fault g line Number one x h = h.2 (subst AreInRange (one_form line x.0 h.0 x.1 h.1) x.2)
asked_without_fault g line UnknownName one x h = names_some g x.0 one x.3 (subst (NamesNone g) (one_form line h.0 x.0 h.1 x.1) h.2.1)
asked_without_fault g line Arity one x h = names_fitting g x.0 one x.3 (subst (NamesOther g) (one_form line h.0 x.0 h.1 x.1) h.2.1)
asked_without_fault g line TooLarge one x h = h.2
