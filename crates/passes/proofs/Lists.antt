-- Histories, and prefixes of lists.
use Rattle.std.proofs.Common.{◌≡◌, ◌≢◌, ◌⊎◌, ℕ, zero, suc, ◌+◌, ◌≤◌, Bool, true, false, eqb, eq-eqb, ne_eqb, List, [], ◌∷◌, ◌++◌, length, refl, sym, ap, ◌∙◌, inl, inr, ⊎_elim, arith, append_assoc, length-append, if◌then◌else◌}
use Rattle.std.proofs.lemmas.List.{append-nil}
use mathlib.Core.List.{IsPrefix}
use mathlib.Core.Option.{some, some-injective, some-ne-none}
use lib.ListN.{get_elem?}
use Rattle.terms.specs.declared.event.Event.{Event}
use Rattle.terms.specs.Commits.{Commit, events_of}
use Rattle.passes.specs.Known.{Made, commits, count_of, made_by}

pub prefix_self : {A : Type 0} (xs : List A) → IsPrefix xs xs
prefix_self xs = ([], append-nil xs)

pub prefix_more : {A : Type 0} (xs ys zs : List A) → IsPrefix xs ys → IsPrefix xs (ys ++ zs)
prefix_more xs ys zs begins = (begins.0 ++ zs, sym (append_assoc xs begins.0 zs) ∙ ap (λ both. both ++ zs) begins.1)

pub prefix_further : {A : Type 0} (xs ys zs : List A) → IsPrefix xs ys → IsPrefix ys zs → IsPrefix xs zs
prefix_further xs ys zs one two = (one.0 ++ two.0, sym (append_assoc xs one.0 two.0) ∙ ap (λ both. both ++ two.0) one.1 ∙ two.1)

pub prefix_length : {A : Type 0} (xs ys : List A) → IsPrefix xs ys → length xs ≤ length ys
prefix_length xs ys begins = omega (arith, sym (ap length begins.1) ∙ length-append xs begins.0)

-- the commits of one history after another
pub commits_append : (one two : List Made) → commits (one ++ two) ≡ commits one ++ commits two
commits_append [] two = refl
commits_append (made ∷ one) two = ap (λ (rest : List Commit). made.commit ∷ rest) (commits_append one two)

-- the events of some commits and then others
pub events_joined : (first second : List Commit) → events_of (first ++ second) ≡ events_of first ++ events_of second
events_joined [] second = refl
events_joined (commit ∷ first) second = ap (λ (rest : List Event). commit ++ rest) (events_joined first second) ∙ sym (append_assoc commit (events_of first) (events_of second))

-- .. and how many they are
pub count_joined : (first second : List Commit) → count_of (first ++ second) ≡ count_of first + count_of second
count_joined first second = ap (λ (all : List Event). length all) (events_joined first second) ∙ length-append (events_of first) (events_of second)

pub count_prefix : (xs ys : List Commit) → IsPrefix xs ys → count_of xs ≤ count_of ys
count_prefix xs ys begins = omega (arith, sym (ap (λ (all : List Commit). count_of all) begins.1) ∙ count_joined xs begins.0)

abbrev one : ℕ → Commit → List Made
one number commit = record { pass = number; commit = commit } ∷ []

-- a commit more has its events more
pub count_more : (history : List Made) (number : ℕ) (commit : Commit) → count_of (commits (history ++ one number commit)) ≡ count_of (commits history) + length commit
count_more history number commit =
    ap (λ (all : List Commit). count_of all) (commits_append history (one number commit)) ∙ count_joined (commits history) (commit ∷ [])
    ∙ ap (λ (all : List Event). count_of (commits history) + length all) (append-nil commit)

-- with one commit more, the pass that made it has one more ..
pub made_by_own : (number : ℕ) (commit : Commit) (history : List Made) → made_by number (history ++ one number commit) ≡ made_by number history ++ commit ∷ []
made_by_own number commit [] = ap (λ same. if same then commit ∷ [] else []) (eq-eqb number number refl)
made_by_own number commit (made ∷ history) = by_case (made_by_own number commit history) (eqb made.pass number)
  where
    by_case : made_by number (history ++ one number commit) ≡ made_by number history ++ commit ∷ [] → (same : Bool)
        → (if same then made.commit ∷ made_by number (history ++ one number commit) else made_by number (history ++ one number commit))
        ≡ (if same then made.commit ∷ made_by number history else made_by number history) ++ commit ∷ []
    by_case rest true = ap (λ all. made.commit ∷ all) rest
    by_case rest false = rest

-- .. and each other has what it had
pub made_by_other : (number other : ℕ) (commit : Commit) (history : List Made) → other ≢ number → made_by number (history ++ one other commit) ≡ made_by number history
made_by_other number other commit [] apart = ap (λ same. if same then commit ∷ [] else []) (ne_eqb other number apart)
made_by_other number other commit (made ∷ history) apart = by_case (made_by_other number other commit history apart) (eqb made.pass number)
  where
    by_case : made_by number (history ++ one other commit) ≡ made_by number history → (same : Bool)
        → (if same then made.commit ∷ made_by number (history ++ one other commit) else made_by number (history ++ one other commit))
        ≡ (if same then made.commit ∷ made_by number history else made_by number history)
    by_case rest true = ap (λ all. made.commit ∷ all) rest
    by_case rest false = rest

-- an element of a list with one more was in it before, or is the last
pub at_end : {A : Type 0} (xs : List A) (last found : A) (place : ℕ) → get_elem? (xs ++ last ∷ []) place ≡ some found → (get_elem? xs place ≡ some found) ⊎ ((place ≡ length xs) × (last ≡ found))
at_end [] last found zero here = inr (refl, some-injective last found here)
at_end [] last found (suc place) here = absurd (some-ne-none found (sym here))
at_end (x ∷ xs) last found zero here = inl here
at_end (x ∷ xs) last found (suc place) here = ⊎_elim (λ before. inl before) (λ (it : (place ≡ length xs) × (last ≡ found)). inr (omega (arith, it.0), it.1)) (at_end xs last found place here)
