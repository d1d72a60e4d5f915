-- What a line asks for according to its tokens, or its fault.
use Rattle.std.proofs.Common.{◌≡◌, ◌≢◌, ℕ, true, false, nat_eq, eq-eqb, length, List, [], ◌∷◌, Some, refl, sym, ap, subst, ◌∙◌}
use Rattle.graph.specs.Graph.{Graph}
use Rattle.script.specs.Faults.{IsFault, IsFormFault}
use Rattle.script.specs.Forms.{Form, HasName, Spells, tokens_of}
use Rattle.script.specs.Lexemes.{lexemes_of}
use Rattle.script.specs.Requests.{form_of}
use Rattle.script.specs.Tokens.{AreSpaces, AreTokens, Lexeme}
use Rattle.script.specs.declared.error.ScriptFault.{ScriptFault}
use Rattle.script.specs.declared.error.ScriptFault.TheVariants.{Syntax, Number, UnknownName, Arity, TooLarge}
use Rattle.script.specs.declared.token.Token.{Token}
use Rattle.script.proofs.FormTokens.{read_back, spelled_back}
use Rattle.script.proofs.Once.{once}

-- the tokens of the line
pub tokens_read : (line text : List ℕ) (items slice : List Token) → text ≡ line → slice ≡ items → AreTokens text (lexemes_of items) → AreTokens line (lexemes_of slice)
tokens_read line text items slice same is h = subst (λ l. AreTokens l (lexemes_of slice)) same (subst (λ (ts : List Token). AreTokens text (lexemes_of ts)) (sym is) h)

pub spelled : (line : List ℕ) (tokens : List Lexeme) (form : Form) → AreTokens line tokens → form_of tokens ≡ Some form → HasName form → Spells line form
spelled line tokens form are is named = (subst (λ (ts : List Lexeme). AreTokens line ts) (sym (spelled_back tokens form is)) are, named)

pub no_form : (line : List ℕ) (tokens : List Lexeme) → AreTokens line tokens → ((form : Form) → form_of tokens ≡ Some form → HasName form → ⊥) → (form : Form) → Spells line form → ⊥
no_form line tokens are none form spells =
    let same : tokens ≡ tokens_of form = once line tokens (tokens_of form) are spells.0 in
    none form (ap form_of same ∙ read_back form) spells.1

some_lexeme : (items : List Token) → items ≢ [] → lexemes_of items ≢ []
some_lexeme [] some e = some refl
some_lexeme (first ∷ items) some e = absurd (cc)

pub some_items : (items : List Token) (count : ℕ) → length items ≡ count → false ≡ nat_eq count 0 → items ≢ []
some_items [] count long some e = let none : nat_eq count 0 ≡ true = eq-eqb count 0 (sym long) in absurd (cc)
some_items (first ∷ items) count long some e = absurd (cc)

pub some_token : (line : List ℕ) (items : List Token) → AreTokens line (lexemes_of items) → items ≢ [] → AreSpaces line → ⊥
some_token line items are some spaces = some_lexeme items some (sym (once line [] (lexemes_of items) spaces are))

pub line_fault : (g : Graph) (line : List ℕ) (form : Form) (fault : ScriptFault) → Spells line form → IsFormFault g form fault → IsFault g line fault
line_fault g line form Number spells h = (form, spells, h)
line_fault g line form UnknownName spells h = (form, spells, h)
line_fault g line form Arity spells h = (form, spells, h)
line_fault g line form Syntax spells h = absurd h
line_fault g line form TooLarge spells h = absurd h
