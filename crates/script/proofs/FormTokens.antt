-- From tokens to their form, and from a form to its tokens.
use Rattle.std.proofs.Common.{◌≡◌, ℕ, ℤ, Bool, true, false, if◌then◌else◌, nat_eq, List, [], ◌∷◌, ◌++◌, Option, Some, None, codes, refl, sym, ap, subst, ◌∙◌, eq-eqb, inl, inr, ◌⊎◌}
use Rattle.std.proofs.lemmas.Bool.{and_parts, eqb-true}
use Rattle.std.proofs.lemmas.List.{append-nil}
use Rattle.steptree.specs.Names.{is_text}
use Rattle.script.specs.Forms.{Form, put, tag, get, run, key_tokens, more_tokens, tokens_of}
use Rattle.script.specs.Requests.{KeyAndMore, Named, with_component, key_of, with_name, named_word, named_behind, named_of, sign_of, word_of, number_of, ended, put_value, put_behind, put_named, tag_named, get_named, put_of, tag_of, get_of, form_by, form_of}
use Rattle.script.specs.Tokens.{Lexeme, word, number, sign, unknown}

-- ---- from a form

same_byte : (byte : ℕ) → nat_eq byte byte ≡ true
same_byte byte = eq-eqb byte byte refl

key_ends : (mark close : ℕ) (behind : List Lexeme) → key_of mark close (sign close ∷ behind) ≡ Some ([], behind)
key_ends mark close [] = rw (same_byte close) refl
key_ends mark close (number value ∷ more) = rw (same_byte close) refl
key_ends mark close (word text ∷ more) = rw (same_byte close) refl
key_ends mark close (sign byte ∷ more) = rw (same_byte close) refl
key_ends mark close (unknown ∷ more) = rw (same_byte close) refl

more_read : (close : ℕ) (key : List ℤ) (behind : List Lexeme) → nat_eq 44 close ≡ false → key_of 44 close (more_tokens key close ++ behind) ≡ Some (key, behind)
more_read close [] behind other = key_ends 44 close behind
more_read close (component ∷ key) behind other = rw other (ap (with_component component) (more_read close key behind other))

key_read : (close : ℕ) (key : List ℤ) (behind : List Lexeme) → nat_eq 44 close ≡ false → nat_eq 58 close ≡ false → key_of 58 close (key_tokens key close ++ behind) ≡ Some (key, behind)
key_read close [] behind comma colon = key_ends 58 close behind
key_read close (component ∷ key) behind comma colon = rw colon (ap (with_component component) (more_read close key behind comma))

-- the tokens of a form are read as that form
pub read_back : (form : Form) → form_of (tokens_of form) ≡ Some form
read_back (put name key value) = ap (λ found. put_named (with_name name found)) (key_read 93 key (sign 61 ∷ number value ∷ []) refl refl)
read_back (tag name key) =
    ap (λ (tokens : List Lexeme). tag_named (with_name name (key_of 58 62 tokens))) (sym (append-nil (key_tokens key 62))) ∙ ap (λ found. tag_named (with_name name found)) (key_read 62 key [] refl refl)
read_back (get name key) =
    ap (λ (tokens : List Lexeme). get_named (with_name name (key_of 58 93 tokens))) (sym (append-nil (key_tokens key 93))) ∙ ap (λ found. get_named (with_name name found)) (key_read 93 key [] refl refl)
read_back run = refl

-- ---- and back

pub if_only : {A : Type 0} (b : Bool) (x : Option A) (r : A) → (if b then x else None) ≡ Some r → (b ≡ true) × (x ≡ Some r)
if_only true x r e = (refl, e)
if_only false x r e = absurd (cc)

if_some : {A : Type 0} (b : Bool) (x y : Option A) (r : A) → (if b then x else y) ≡ Some r → ((b ≡ true) × (x ≡ Some r)) ⊎ ((b ≡ false) × (y ≡ Some r))
if_some true x y r e = inl (refl, e)
if_some false x y r e = inr (refl, e)

pub some_same : {A : Type 0} (one two : A) → Some one ≡ Some two → one ≡ two
some_same one two e = cc

pub same_text : (one two : List ℕ) → is_text one two ≡ true → one ≡ two
same_text [] [] e = refl
same_text [] (y ∷ ys) e = absurd (cc)
same_text (x ∷ xs) [] e = absurd (cc)
same_text (x ∷ xs) (y ∷ ys) e =
    let both = and_parts (nat_eq x y) (is_text xs ys) e in
    let heads : x ≡ y = eqb-true x y both.0 in
    let tails : xs ≡ ys = same_text xs ys both.1 in
    cc

abbrev Found : Type 0
Found = List ℤ × List Lexeme

-- components with this mark before the first, and the bracket after them
abbrev marked : ℕ → List ℤ → ℕ → List Lexeme
marked mark [] close = sign close ∷ []
marked mark (component ∷ key) close = sign mark ∷ number component ∷ more_tokens key close

more_marked : (key : List ℤ) (close : ℕ) → marked 44 key close ≡ more_tokens key close
more_marked [] close = refl
more_marked (component ∷ key) close = refl

key_marked : (key : List ℤ) (close : ℕ) → marked 58 key close ≡ key_tokens key close
key_marked [] close = refl
key_marked (component ∷ key) close = refl

end_spelled : (mark close byte : ℕ) (more : List Lexeme) (found : Found) → nat_eq byte close ≡ true → Some ([], more) ≡ Some found → sign byte ∷ more ≡ marked mark found.0 close ++ found.1
end_spelled mark close byte more found closes whole =
    let pair : ([], more) ≡ found = cc in
    subst (λ (f : Found). sign byte ∷ more ≡ marked mark f.0 close ++ f.1) pair (ap (λ b. sign b ∷ more) (eqb-true byte close closes))

end_only : (mark close byte : ℕ) (more : List Lexeme) (found : Found) → (if nat_eq byte close then Some ([], more) else None) ≡ Some found → sign byte ∷ more ≡ marked mark found.0 close ++ found.1
end_only mark close byte more found e = let is = if_only {A = Found} (nat_eq byte close) (Some ([], more)) found e in end_spelled mark close byte more found is.0 is.1

with_spelled : (mark close : ℕ) (value : ℤ) (more : List Lexeme) (rest : KeyAndMore) (found : Found) → with_component value rest ≡ Some found
    → ((next : Found) → rest ≡ Some next → more ≡ marked 44 next.0 close ++ next.1) → sign mark ∷ number value ∷ more ≡ marked mark found.0 close ++ found.1
with_spelled mark close value more None found e spelled = absurd (cc)
with_spelled mark close value more (Some next) found e spelled =
    let pair : (value ∷ next.0, next.1) ≡ found = cc in
    let behind : more ≡ more_tokens next.0 close ++ next.1 = spelled next refl ∙ ap (λ tokens. tokens ++ next.1) (more_marked next.0 close) in
    subst (λ (f : Found). sign mark ∷ number value ∷ more ≡ marked mark f.0 close ++ f.1) pair (ap (λ tokens. sign mark ∷ number value ∷ tokens) behind)

goes_on : (mark close byte : ℕ) (value : ℤ) (more : List Lexeme) (found : Found) → (if nat_eq byte mark then with_component value (key_of 44 close more) else None) ≡ Some found
    → ((next : Found) → key_of 44 close more ≡ Some next → more ≡ marked 44 next.0 close ++ next.1) → sign byte ∷ number value ∷ more ≡ marked mark found.0 close ++ found.1
goes_on mark close byte value more found e spelled =
    let is = if_only {A = Found} (nat_eq byte mark) (with_component value (key_of 44 close more)) found e in
    ap (λ b. sign b ∷ number value ∷ more) (eqb-true byte mark is.0) ∙ with_spelled mark close value more (key_of 44 close more) found is.1 spelled

key_by : (mark close byte : ℕ) (value : ℤ) (more : List Lexeme) (found : Found)
    → ((nat_eq byte close ≡ true) × (Some ([], number value ∷ more) ≡ Some found)) ⊎ ((nat_eq byte close ≡ false) × ((if nat_eq byte mark then with_component value (key_of 44 close more) else None) ≡ Some found))
    → ((next : Found) → key_of 44 close more ≡ Some next → more ≡ marked 44 next.0 close ++ next.1)
    → sign byte ∷ number value ∷ more ≡ marked mark found.0 close ++ found.1
key_by mark close byte value more found (inl closes) spelled = end_spelled mark close byte (number value ∷ more) found closes.0 closes.1
key_by mark close byte value more found (inr next) spelled = goes_on mark close byte value more found next.1 spelled

key_spelled : (mark close : ℕ) (tokens : List Lexeme) (found : Found) → key_of mark close tokens ≡ Some found → tokens ≡ marked mark found.0 close ++ found.1
key_spelled mark close (sign byte ∷ number value ∷ more) found e =
    key_by mark close byte value more found (if_some {A = Found} (nat_eq byte close) _ _ found e) (λ next is. key_spelled 44 close more next is)
key_spelled mark close [] found e = absurd (cc)
key_spelled mark close (word text ∷ more) found e = absurd (cc)
key_spelled mark close (number value ∷ more) found e = absurd (cc)
key_spelled mark close (unknown ∷ more) found e = absurd (cc)
key_spelled mark close (sign byte ∷ []) found e = end_only mark close byte [] found e
key_spelled mark close (sign byte ∷ word text ∷ more) found e = end_only mark close byte (word text ∷ more) found e
key_spelled mark close (sign byte ∷ sign other ∷ more) found e = end_only mark close byte (sign other ∷ more) found e
key_spelled mark close (sign byte ∷ unknown ∷ more) found e = end_only mark close byte (unknown ∷ more) found e

key_back : (close : ℕ) (tokens : List Lexeme) (next : Found) → key_of 58 close tokens ≡ Some next → tokens ≡ key_tokens next.0 close ++ next.1
key_back close tokens next e = key_spelled 58 close tokens next e ∙ ap (λ front. front ++ next.1) (key_marked next.0 close)

-- one token in front
sign_back : (mark : ℕ) (tokens more : List Lexeme) → sign_of mark tokens ≡ Some more → tokens ≡ sign mark ∷ more
sign_back mark [] more e = absurd (cc)
sign_back mark (word text ∷ rest) more e = absurd (cc)
sign_back mark (number value ∷ rest) more e = absurd (cc)
sign_back mark (unknown ∷ rest) more e = absurd (cc)
sign_back mark (sign byte ∷ rest) more e =
    let is = if_only {A = List Lexeme} (nat_eq byte mark) (Some rest) more e in
    let same : rest ≡ more = some_same {A = List Lexeme} rest more is.1 in
    ap (λ b. sign b ∷ rest) (eqb-true byte mark is.0) ∙ ap (λ tokens. sign mark ∷ tokens) same

word_back : (tokens : List Lexeme) (found : List ℕ × List Lexeme) → word_of tokens ≡ Some found → tokens ≡ word found.0 ∷ found.1
word_back [] found e = absurd (cc)
word_back (word text ∷ rest) found e = ap (λ (f : List ℕ × List Lexeme). word f.0 ∷ f.1) (some_same {A = List ℕ × List Lexeme} (text, rest) found e)
word_back (number value ∷ rest) found e = absurd (cc)
word_back (sign byte ∷ rest) found e = absurd (cc)
word_back (unknown ∷ rest) found e = absurd (cc)

number_back : (tokens : List Lexeme) (found : ℤ × List Lexeme) → number_of tokens ≡ Some found → tokens ≡ number found.0 ∷ found.1
number_back [] found e = absurd (cc)
number_back (word text ∷ rest) found e = absurd (cc)
number_back (number value ∷ rest) found e = ap (λ (f : ℤ × List Lexeme). number f.0 ∷ f.1) (some_same {A = ℤ × List Lexeme} (value, rest) found e)
number_back (sign byte ∷ rest) found e = absurd (cc)
number_back (unknown ∷ rest) found e = absurd (cc)

-- a name with a key
with_name_back : (name : List ℕ) (found : KeyAndMore) (named : Named) → with_name name found ≡ Some named → (found ≡ Some (named.1, named.2)) × (name ≡ named.0)
with_name_back name None named e = absurd (cc)
with_name_back name (Some found) named e =
    let same : (name, found.0, found.1) ≡ named = some_same {A = Named} (name, found.0, found.1) named e in
    (ap (λ (n : Named). let pair : Found = (n.1, n.2) in Some pair) same, ap (λ (n : Named). n.0) same)

word_named : (close : ℕ) (tokens : List Lexeme) (front : Option (List ℕ × List Lexeme)) (named : Named) → word_of tokens ≡ front → named_word close front ≡ Some named
    → tokens ≡ word named.0 ∷ key_tokens named.1 close ++ named.2
word_named close tokens None named is e = absurd (cc)
word_named close tokens (Some found) named is e =
    let both = with_name_back found.0 (key_of 58 close found.1) named e in
    word_back tokens found is ∙ ap (λ n. word n ∷ found.1) both.1 ∙ ap (λ more. word named.0 ∷ more) (key_back close found.1 (named.1, named.2) both.0)

sign_named : (open' close : ℕ) (tokens : List Lexeme) (front : Option (List Lexeme)) (named : Named) → sign_of open' tokens ≡ front → named_behind close front ≡ Some named
    → tokens ≡ sign open' ∷ word named.0 ∷ key_tokens named.1 close ++ named.2
sign_named open' close tokens None named is e = absurd (cc)
sign_named open' close tokens (Some more) named is e =
    sign_back open' tokens more is ∙ ap (λ rest. sign open' ∷ rest) (word_named close more (word_of more) named refl e)

named_back : (open' close : ℕ) (tokens : List Lexeme) (named : Named) → named_of open' close tokens ≡ Some named → tokens ≡ sign open' ∷ word named.0 ∷ key_tokens named.1 close ++ named.2
named_back open' close tokens named e = sign_named open' close tokens (sign_of open' tokens) named refl e

-- the end of a form
end_form : (one : Form) (tokens : List Lexeme) (form : Form) → ended one tokens ≡ Some form → (tokens ≡ []) × (form ≡ one)
end_form one [] form e = (refl, sym (some_same {A = Form} one form e))
end_form one (first ∷ more) form e = absurd (cc)

value_form : (name : List ℕ) (key : List ℤ) (tokens : List Lexeme) (front : Option (ℤ × List Lexeme)) (form : Form) → number_of tokens ≡ front → put_value name key front ≡ Some form
    → (value : ℤ) × (tokens ≡ number value ∷ []) × (form ≡ put name key value)
value_form name key tokens None form is e = absurd (cc)
value_form name key tokens (Some found) form is e =
    let ends = end_form (put name key found.0) found.1 form e in
    (found.0, number_back tokens found is ∙ ap (λ more. number found.0 ∷ more) ends.0, ends.1)

put_form : (name : List ℕ) (key : List ℤ) (tokens : List Lexeme) (front : Option (List Lexeme)) (form : Form) → sign_of 61 tokens ≡ front → put_behind name key front ≡ Some form
    → (value : ℤ) × (tokens ≡ sign 61 ∷ number value ∷ []) × (form ≡ put name key value)
put_form name key tokens None form is e = absurd (cc)
put_form name key tokens (Some more) form is e =
    let ends = value_form name key more (number_of more) form refl e in
    (ends.0, sign_back 61 tokens more is ∙ ap (λ rest. sign 61 ∷ rest) ends.1, ends.2)

-- after the first word
put_front : (tokens : List Lexeme) (front : Option Named) (form : Form) → named_of 91 93 tokens ≡ front → put_named front ≡ Some form → tokens_of form ≡ word (codes "put") ∷ tokens
put_front tokens None form is e = absurd (cc)
put_front tokens (Some named) form is e =
    let ends = put_form named.0 named.1 named.2 (sign_of 61 named.2) form refl e in
    let whole : tokens ≡ sign 91 ∷ word named.0 ∷ key_tokens named.1 93 ++ sign 61 ∷ number ends.0 ∷ [] =
    named_back 91 93 tokens named is ∙ ap (λ more. sign 91 ∷ word named.0 ∷ key_tokens named.1 93 ++ more) ends.1 in
    ap tokens_of ends.2 ∙ ap (λ more. word (codes "put") ∷ more) (sym whole)

tag_front : (tokens : List Lexeme) (front : Option Named) (form : Form) → named_of 60 62 tokens ≡ front → tag_named front ≡ Some form → tokens_of form ≡ word (codes "tag") ∷ tokens
tag_front tokens None form is e = absurd (cc)
tag_front tokens (Some named) form is e =
    let ends = end_form (tag named.0 named.1) named.2 form e in
    let whole : tokens ≡ sign 60 ∷ word named.0 ∷ key_tokens named.1 62 =
    named_back 60 62 tokens named is ∙ ap (λ more. sign 60 ∷ word named.0 ∷ key_tokens named.1 62 ++ more) ends.0 ∙ ap (λ more. sign 60 ∷ word named.0 ∷ more) (append-nil (key_tokens named.1 62)) in
    ap tokens_of ends.1 ∙ ap (λ more. word (codes "tag") ∷ more) (sym whole)

get_front : (tokens : List Lexeme) (front : Option Named) (form : Form) → named_of 91 93 tokens ≡ front → get_named front ≡ Some form → tokens_of form ≡ word (codes "get") ∷ tokens
get_front tokens None form is e = absurd (cc)
get_front tokens (Some named) form is e =
    let ends = end_form (get named.0 named.1) named.2 form e in
    let whole : tokens ≡ sign 91 ∷ word named.0 ∷ key_tokens named.1 93 =
    named_back 91 93 tokens named is ∙ ap (λ more. sign 91 ∷ word named.0 ∷ key_tokens named.1 93 ++ more) ends.0 ∙ ap (λ more. sign 91 ∷ word named.0 ∷ more) (append-nil (key_tokens named.1 93)) in
    ap tokens_of ends.1 ∙ ap (λ more. word (codes "get") ∷ more) (sym whole)

put_whole : (tokens : List Lexeme) (form : Form) → put_of tokens ≡ Some form → tokens_of form ≡ word (codes "put") ∷ tokens
put_whole tokens form e = put_front tokens (named_of 91 93 tokens) form refl e

tag_whole : (tokens : List Lexeme) (form : Form) → tag_of tokens ≡ Some form → tokens_of form ≡ word (codes "tag") ∷ tokens
tag_whole tokens form e = tag_front tokens (named_of 60 62 tokens) form refl e

get_whole : (tokens : List Lexeme) (form : Form) → get_of tokens ≡ Some form → tokens_of form ≡ word (codes "get") ∷ tokens
get_whole tokens form e = get_front tokens (named_of 91 93 tokens) form refl e

run_whole : (tokens : List Lexeme) (form : Form) → ended run tokens ≡ Some form → tokens_of form ≡ word (codes "run") ∷ tokens
run_whole tokens form e =
    let is = end_form run tokens form e in
    ap tokens_of is.1 ∙ ap (λ more. word (codes "run") ∷ more) (sym is.0)

-- the first word is this one
by_word : (verb text : List ℕ) (more : List Lexeme) (form : Form) → is_text verb text ≡ true → tokens_of form ≡ word text ∷ more → tokens_of form ≡ word verb ∷ more
by_word verb text more form is e = e ∙ ap (λ t. word t ∷ more) (sym (same_text verb text is))

verb_run : (verb : List ℕ) (more : List Lexeme) (form : Form) → (if is_text verb (codes "run") then ended run more else None) ≡ Some form → tokens_of form ≡ word verb ∷ more
verb_run verb more form e =
    let is = if_only {A = Form} (is_text verb (codes "run")) (ended run more) form e in
    by_word verb (codes "run") more form is.0 (run_whole more form is.1)

verb_get : (verb : List ℕ) (more : List Lexeme) (form : Form) → (if is_text verb (codes "get") then get_of more else (if is_text verb (codes "run") then ended run more else None)) ≡ Some form → tokens_of form ≡ word verb ∷ more
verb_get verb more form e = elim (if_some {A = Form} (is_text verb (codes "get")) (get_of more) _ form e) [
  | inl is ↦ by_word verb (codes "get") more form is.0 (get_whole more form is.1)
  | inr not ↦ verb_run verb more form not.1
]

verb_tag : (verb : List ℕ) (more : List Lexeme) (form : Form) → (if is_text verb (codes "tag") then tag_of more else (if is_text verb (codes "get") then get_of more else (if is_text verb (codes "run") then ended run more else None))) ≡ Some form → tokens_of form ≡ word verb ∷ more
verb_tag verb more form e = elim (if_some {A = Form} (is_text verb (codes "tag")) (tag_of more) _ form e) [
  | inl is ↦ by_word verb (codes "tag") more form is.0 (tag_whole more form is.1)
  | inr not ↦ verb_get verb more form not.1
]

verb_put : (verb : List ℕ) (more : List Lexeme) (form : Form) → form_by verb more ≡ Some form → tokens_of form ≡ word verb ∷ more
verb_put verb more form e = elim (if_some {A = Form} (is_text verb (codes "put")) (put_of more) _ form e) [
  | inl is ↦ by_word verb (codes "put") more form is.0 (put_whole more form is.1)
  | inr not ↦ verb_tag verb more form not.1
]

-- tokens that are read as a form are the tokens of that form
pub spelled_back : (tokens : List Lexeme) (form : Form) → form_of tokens ≡ Some form → tokens_of form ≡ tokens
spelled_back [] form e = absurd (cc)
spelled_back (word verb ∷ more) form e = verb_put verb more form e
spelled_back (number value ∷ more) form e = absurd (cc)
spelled_back (sign byte ∷ more) form e = absurd (cc)
spelled_back (unknown ∷ more) form e = absurd (cc)
