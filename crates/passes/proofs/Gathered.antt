-- The history has just the passes' commits.
use Rattle.std.proofs.Common.{◌≡◌, ℕ, ◌<◌, ◌≤◌, Bool, true, false, true≢false, eqb, List, [], ◌∷◌, ◌++◌, refl, sym, ap, subst, ◌∙◌, arith, if◌then◌else◌}
use Rattle.std.specs.List.{AllByRecursion}
use Rattle.std.proofs.lemmas.Bool.Decides.{nat_tests}
use Rattle.std.proofs.lemmas.List.{append-nil}
use native.Mathlib.Decide.{dec_le}
use mathlib.Core.Logic.{dite}
use Rattle.terms.specs.declared.event.Event.{Event}
use Rattle.terms.specs.Commits.{Commit, events_of}
use Rattle.passes.specs.Known.{Known, Made, made_by}
use Rattle.passes.specs.Rule.{IsInHistory, HasNoneFrom}
use Rattle.passes.specs.Roll.{has_number, mine_of}
use Rattle.passes.proofs.Lists.{events_joined}

-- a pass that is here has what the history has of its number
found : (history : List Made) (number : ℕ) (passes : List Known) → AllByRecursion (IsInHistory history) passes → has_number number passes ≡ true → made_by number history ≡ mine_of number passes
found history number [] all here = absurd (true≢false (sym here))
found history number (known ∷ rest) all here = by_case (eqb known.number number) refl here (found history number rest all.1)
  where
    by_case : (same : Bool) → eqb known.number number ≡ same → (if same then true else has_number number rest) ≡ true → (has_number number rest ≡ true → made_by number history ≡ mine_of number rest)
        → made_by number history ≡ (if same then known.mine else mine_of number rest)
    by_case true is _ _ = let same : known.number ≡ number = grind (arith, nat_tests) in ap (λ (n : ℕ). made_by n history) (sym same) ∙ all.0.mine
    by_case false is there more = more there

-- if none is here, no commit is its own
none_found : (number : ℕ) (passes : List Known) → has_number number passes ≡ false → mine_of number passes ≡ []
none_found number [] none = refl
none_found number (known ∷ rest) none = by_case (eqb known.number number) none (none_found number rest)
  where
    by_case : (same : Bool) → (if same then true else has_number number rest) ≡ false → (has_number number rest ≡ false → mine_of number rest ≡ []) → (if same then known.mine else mine_of number rest) ≡ []
    by_case true none _ = absurd (true≢false none)
    by_case false none more = more none

pub just_theirs : (history : List Made) (count : ℕ) (passes : List Known) → AllByRecursion (IsInHistory history) passes → ((number : ℕ) → number < count → has_number number passes ≡ true) → HasNoneFrom count history
    → (number : ℕ) → made_by number history ≡ mine_of number passes
just_theirs history count passes all here none number = by_case (has_number number passes) refl
  where
    by_case : (is : Bool) → has_number number passes ≡ is → made_by number history ≡ mine_of number passes
    by_case true is = found history number passes all is
    by_case false is = dite (dec_le count number) (λ (beyond : count ≤ number). none number beyond ∙ sym (none_found number passes is)) (λ below. absurd (true≢false (sym (here number (omega arith)) ∙ is)))

pub all_of_both : {A : Type 0} (such : A → Type 0) (one two : List A) → AllByRecursion such one → AllByRecursion such two → AllByRecursion such (one ++ two)
all_of_both such [] two all rest = rest
all_of_both such (x ∷ one) two all rest = (all.0, all_of_both such one two all.1 rest)

-- with a commit more, if each of its events is such an event too
pub all_with : (such : Event → Type 0) (mine : List Commit) (commit : Commit) → AllByRecursion such (events_of mine) → AllByRecursion such commit → AllByRecursion such (events_of (mine ++ commit ∷ []))
all_with such mine commit all its =
    subst (λ (list : List Event). AllByRecursion such list) (sym (events_joined mine (commit ∷ []) ∙ ap (λ (list : List Event). events_of mine ++ list) (append-nil commit))) (all_of_both such (events_of mine) commit all its)

-- a pass is in two joined lists exactly if it is in one of them
pub has_of_both : (number : ℕ) (one two : List Known) → has_number number (one ++ two) ≡ (if has_number number one then true else has_number number two)
has_of_both number [] two = refl
has_of_both number (known ∷ one) two = by_case (eqb known.number number) (has_of_both number one two)
  where
    by_case : (same : Bool) → has_number number (one ++ two) ≡ (if has_number number one then true else has_number number two)
        → (if same then true else has_number number (one ++ two)) ≡ (if (if same then true else has_number number one) then true else has_number number two)
    by_case true rest = refl
    by_case false rest = rest
