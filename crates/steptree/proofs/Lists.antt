-- Lists, one element after another.
use Rattle.std.proofs.Common.{◌≡◌, ◌<◌, ℕ, suc, ◌+◌, List, [], ◌∷◌, ◌++◌, length, drop, get_or, refl, sym, ap, ◌∙◌, arith}
use Rattle.std.proofs.Math.Seq.{drop-cons}

-- the rest of a list from an index on: the element there, and those after it
pub opened : {X : Type 0} (xs : List X) (index : ℕ) (this : X) → index < length xs → this ≡ get_or xs index this → drop index xs ≡ this ∷ drop (index + 1) xs
opened xs index this within is =
    let next : suc index ≡ index + 1 = omega arith in
    drop-cons xs index this within ∙ ap (λ x. x ∷ drop (suc index) xs) (sym is) ∙ ap (λ (n : ℕ). this ∷ drop n xs) next

past_all : {X : Type 0} (xs : List X) → drop (length xs) xs ≡ []
past_all [] = refl
past_all (x ∷ xs) = past_all xs

-- nothing is left after the last element
pub past : {X : Type 0} (xs : List X) (index : ℕ) → index ≡ length xs → drop index xs ≡ []
past xs index all = ap (λ (n : ℕ). drop n xs) all ∙ past_all xs

pub with_none : {X : Type 0} (xs : List X) → xs ++ [] ≡ xs
with_none [] = refl
with_none (x ∷ xs) = ap (λ l. x ∷ l) (with_none xs)

pub empty_in_front : {X : Type 0} (xs ys : List X) → xs ≡ [] → xs ++ ys ≡ ys
empty_in_front xs ys none = ap (λ l. l ++ ys) none
