-- The components of a key that were read, and those that are still to come; and the form after them.
use Rattle.std.proofs.Common.{◌≡◌, ◌≢◌, ℕ, ℤ, Bool, true, false, nat_eq, if◌then◌else◌, List, [], ◌∷◌, ◌++◌, Option, Some, None, codes, refl, sym, ap, subst, ◌∙◌, append_assoc}
use Rattle.steptree.specs.Names.{is_text}
use Rattle.script.specs.Forms.{Form, HasName, IsName, put, tag, get}
use Rattle.script.specs.Requests.{KeyAndMore, Named, with_component, with_components, key_of, sign_of, number_of, ended, put_value, put_behind, tag_named, get_named, form_by}
use Rattle.script.specs.Tokens.{Lexeme, word, number, sign, unknown}
use Rattle.script.proofs.FormTokens.{if_only, same_text, some_same}

-- ---- components

with_one : (key : List ℤ) (value : ℤ) (rest : KeyAndMore) → with_components key (with_component value rest) ≡ with_components (key ++ value ∷ []) rest
with_one key value None = refl
with_one key value (Some found) = rw append_assoc refl

if_none : {A : Type 0} (b : Bool) (x : A) → (if b then Some x else None) ≡ None → b ≡ false
if_none true x e = absurd (cc)
if_none false x e = refl

abbrev Valued : Type 0
Valued = ℤ × List Lexeme

one_read : (mark close byte : ℕ) (value : ℤ) (rest : List Lexeme) (found : Valued) → nat_eq byte close ≡ false → nat_eq byte mark ≡ true → (value, rest) ≡ found
    → key_of mark close (sign byte ∷ number value ∷ rest) ≡ with_component found.0 (key_of 44 close found.1)
one_read mark close byte value rest found other same is = rw (other, same) (ap (λ (f : Valued). with_component f.0 (key_of 44 close f.1)) is)

number_read : (mark close byte : ℕ) (rest : List Lexeme) (found : Valued) → nat_eq byte close ≡ false → nat_eq byte mark ≡ true → number_of rest ≡ Some found
    → key_of mark close (sign byte ∷ rest) ≡ with_component found.0 (key_of 44 close found.1)
number_read mark close byte [] found other same is = absurd (cc)
number_read mark close byte (word text ∷ rest) found other same is = absurd (cc)
number_read mark close byte (number value ∷ rest) found other same is = one_read mark close byte value rest found other same (some_same {A = Valued} (value, rest) found is)
number_read mark close byte (sign next ∷ rest) found other same is = absurd (cc)
number_read mark close byte (unknown ∷ rest) found other same is = absurd (cc)

component_read : (mark close : ℕ) (tokens more : List Lexeme) (found : Valued) → sign_of close tokens ≡ None → sign_of mark tokens ≡ Some more → number_of more ≡ Some found
    → key_of mark close tokens ≡ with_component found.0 (key_of 44 close found.1)
component_read mark close [] more found none is value = absurd (cc)
component_read mark close (word text ∷ rest) more found none is value = absurd (cc)
component_read mark close (number first ∷ rest) more found none is value = absurd (cc)
component_read mark close (unknown ∷ rest) more found none is value = absurd (cc)
component_read mark close (sign byte ∷ rest) more found none is value =
    let begins = if_only {A = List Lexeme} (nat_eq byte mark) (Some rest) more is in
    let same : rest ≡ more = some_same {A = List Lexeme} rest more begins.1 in
    number_read mark close byte rest found (if_none {A = List Lexeme} (nat_eq byte close) rest none) begins.0 (subst (λ (tokens : List Lexeme). number_of tokens ≡ Some found) (sym same) value)

pub to_come : (mark close : ℕ) (key : List ℤ) (whole : KeyAndMore) (tokens same more : List Lexeme) (value : ℤ) (after : List Lexeme) → with_components key (key_of mark close tokens) ≡ whole
    → sign_of close tokens ≡ None → same ≡ tokens → sign_of mark same ≡ Some more → number_of more ≡ Some (value, after) → with_components (key ++ value ∷ []) (key_of 44 close after) ≡ whole
to_come mark close key whole tokens same more value after e none is begins read =
    let next = component_read mark close tokens more (value, after) none (subst (λ (ts : List Lexeme). sign_of mark ts ≡ Some more) is begins) read in
    sym (with_one key value (key_of 44 close after)) ∙ sym (ap (with_components key) next) ∙ e

-- ---- forms

-- a form with no token behind it
at_end : (form other : Form) (more : List Lexeme) → ended form more ≡ Some other → (more ≡ []) × (form ≡ other)
at_end form other [] is = (refl, some_same {A = Form} form other is)
at_end form other (first ∷ more) is = absurd (cc)

pub no_tag : (found : Option Named) → ((named : Named) → found ≡ Some named → named.2 ≡ [] → IsName named.0 → ⊥) → (form : Form) → tag_named found ≡ Some form → HasName form → ⊥
no_tag None none form is has = absurd (cc)
no_tag (Some named) none form is has = let end = at_end (tag named.0 named.1) form named.2 is in none named refl end.0 (subst HasName (sym end.1) has)

pub no_get : (found : Option Named) → ((named : Named) → found ≡ Some named → named.2 ≡ [] → IsName named.0 → ⊥) → (form : Form) → get_named found ≡ Some form → HasName form → ⊥
no_get None none form is has = absurd (cc)
no_get (Some named) none form is has = let end = at_end (get named.0 named.1) form named.2 is in none named refl end.0 (subst HasName (sym end.1) has)

pub put_read : (name : List ℕ) (key : List ℤ) (value : ℤ) (tokens more after : List Lexeme) → sign_of 61 tokens ≡ Some more → number_of more ≡ Some (value, after) → after ≡ []
    → put_behind name key (sign_of 61 tokens) ≡ Some (put name key value)
put_read name key value tokens more after begins is ends = ap (put_behind name key) begins ∙ ap (put_value name key) is ∙ ap (ended (put name key value)) ends

other_text : (one two : List ℕ) → one ≢ two → is_text one two ≡ false
other_text one two other = by (is_text one two) refl
  where
    by : (b : Bool) → is_text one two ≡ b → b ≡ false
    by true e = absurd (other (same_text one two e))
    by false e = refl

pub no_verb : (verb : List ℕ) (more : List Lexeme) (form : Form) → verb ≢ codes "put" → verb ≢ codes "tag" → verb ≢ codes "get" → verb ≢ codes "run" → form_by verb more ≡ Some form → ⊥
no_verb verb more form a b c d is =
    let none : form_by verb more ≡ None =
    rw (other_text verb (codes "put") a, other_text verb (codes "tag") b, other_text verb (codes "get") c, other_text verb (codes "run") d) refl in
    absurd (cc)
