-- What is read of a script: all of it, or a prefix that is too long to be a script.
use Rattle.std.proofs.Common.{◌≡◌, ◌∙◌, ap, refl, sym, inl, inr, ℕ, zero, suc, ◌+◌, ◌<◌, ◌≤◌, ◌⊎◌, List, [], ◌∷◌, ◌++◌, length, take, drop, Option, Some, None, Result, Ok, Err, IfOk, IfErr, arith, length-take, length-append}
use Rattle.std.specs.Prelude.{IfSome}
use Rattle.std.specs.Option.{option_map}
use Rattle.std.proofs.lemmas.List.{take_all}
use Rattle.graph.specs.Graph.{Graph}
use Rattle.script.specs.declared.parser.TheConstants.{MOST_BYTES}
use Rattle.session.specs.declared.error.SessionError.{SessionError}
use Rattle.session.specs.declared.error.SessionError.TheVariants.{Read, Write, Script, NoMemory}
use Rattle.session.specs.Fails.{FailsToRead, IsAllOf, IsAllOrTooLarge, IsRefusedAs}
use Rattle.session.specs.Streams.{IsTaken}

pub is_taken : (known : Option (List ℕ)) (limit : ℕ) (items old text : List ℕ) → IfSome (option_map (take limit) known) (λ bytes. items ≡ old ++ bytes) → old ≡ [] → text ≡ items → IsTaken known limit text
is_taken None limit items old text read empty is = tt
is_taken (Some bytes) limit items old text read empty is = is ∙ read ∙ ap (λ front. front ++ take limit bytes) empty

parts : {X : Type 0} (count : ℕ) (list : List X) → list ≡ take count list ++ drop count list
parts zero list = refl
parts (suc count) [] = refl
parts (suc count) (first ∷ rest) = ap (λ more. first ∷ more) (parts count rest)

-- the rest is nothing, or what was taken is too large
pub enough : (most : ℕ) (known : Option (List ℕ)) (limit : ℕ) (text : List ℕ) → limit ≡ most + 1 → IsTaken known limit text → IsAllOrTooLarge most known text
enough most None limit text is taken = tt
enough most (Some bytes) limit text is taken = (drop limit bytes, whole, by_rest (drop limit bytes) refl)
  where
    whole : bytes ≡ text ++ drop limit bytes
    whole = parts limit bytes ∙ ap (λ front. front ++ drop limit bytes) (sym taken)

    by_rest : (rest : List ℕ) → drop limit bytes ≡ rest → (drop limit bytes ≡ []) ⊎ (most < length text)
    by_rest [] here = inl here
    by_rest (first ∷ rest) here =
        inr (omega (arith, is, ap length taken, length-take limit bytes, ap length whole, length-append text (drop limit bytes), ap length here))

pub all : (known : Option (List ℕ)) (limit : ℕ) (text : List ℕ) → limit ≡ MOST_BYTES + 1 → IsTaken known limit text → length text ≤ MOST_BYTES → IsAllOf known text
all None limit text is taken small = tt
all (Some bytes) limit text is taken small = sym (take_all limit bytes (omega (arith, is, ap length taken, length-take limit bytes, small))) ∙ sym taken

pub fails : (g : Graph) (known : Option (List ℕ)) (text : List ℕ) (error : SessionError) → IsAllOrTooLarge MOST_BYTES known text → IsRefusedAs g text error → FailsToRead g known error
fails g known text (Script number fault) is refused = (text, is, refused)
fails g known text NoMemory is refused = tt
fails g known text Read is refused = absurd refused
fails g known text Write is refused = absurd refused

-- ---- results that follow from others

pub where_it_is_ok : {T E : Type 0} {P Q : T → Type 0} (r : Result T E) → ((x : T) → P x → Q x) → IfOk r P → IfOk r Q
where_it_is_ok (Ok x) follows holds = follows x holds
where_it_is_ok (Err error) follows holds = tt

pub where_it_is_err : {T E : Type 0} {P Q : E → Type 0} (r : Result T E) → ((error : E) → P error → Q error) → IfErr r P → IfErr r Q
where_it_is_err (Ok x) follows holds = tt
where_it_is_err (Err error) follows holds = follows error holds
