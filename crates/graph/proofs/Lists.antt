-- Lists, one element after another.
use Rattle.std.proofs.Common.{◌≡◌, ◌<◌, ℕ, zero, suc, ◌+◌, List, [], ◌∷◌, length, map, drop, get_or, Some, slice_get, refl, sym, ap, subst, ◌∙◌, Bool, ◌||◌, ◌++◌, take}
use Rattle.std.specs.List.{AllByRecursion, list_any, flat_map}
use Rattle.std.proofs.lemmas.Option.{slice_get_within, get_or_from_slice_get, slice_get-get_or}
use Rattle.syntax.specs.Tree.{AreAll}
use Rattle.std.proofs.lemmas.List.{drop_more, take_more}
use Rattle.std.proofs.lemmas.List.Elements.{All-from_recursion}

-- what is left at an index: the element there, and those after it
pub opened : {X : Type 0} (xs : List X) (index : ℕ) (this : X) → index < length xs → this ≡ get_or xs index this → drop index xs ≡ this ∷ drop (index + 1) xs
opened xs index this within is = drop_more xs index this within ∙ ap (λ x. x ∷ drop (index + 1) xs) (sym is)

-- what was taken before an index, and the element there
pub taken : {X : Type 0} (xs : List X) (index : ℕ) (this : X) → index < length xs → this ≡ get_or xs index this → take (index + 1) xs ≡ take index xs ++ this ∷ []
taken xs index this within is = take_more xs index this within ∙ ap (λ x. take index xs ++ x ∷ []) (sym is)

-- what holds of each element holds of the one at an index
pub each_at : {X : Type 0} (P : X → Type 0) (xs : List X) (index : ℕ) (default : X) → index < length xs → AllByRecursion P xs → P (get_or xs index default)
each_at P xs index default within all = All-from_recursion P xs all index default within

pub each_found : {X : Type 0} (P : X → Type 0) (xs : List X) (index : ℕ) (this : X) → slice_get xs index ≡ Some this → AllByRecursion P xs → P this
each_found P xs index this there all = subst P (get_or_from_slice_get xs index this this there) (each_at P xs index this (slice_get_within xs index this there) all)

pub no_both : {X : Type 0} (xs ys : List X) → xs ≡ [] → ys ≡ [] → xs ++ ys ≡ []
no_both xs ys one two = λ i. one i ++ two i

pub there_at : {X : Type 0} (xs : List X) (index : ℕ) (this : X) → index < length xs → this ≡ get_or xs index this → slice_get xs index ≡ Some this
there_at xs index this within is = slice_get-get_or xs index this within ∙ ap (λ x. Some x) (sym is)

-- ---- what holds of each

pub each_weaker : {X : Type 0} (P Q : X → Type 0) → ((x : X) → P x → Q x) → (xs : List X) → AllByRecursion P xs → AllByRecursion Q xs
each_weaker P Q weaker [] all = tt
each_weaker P Q weaker (x ∷ xs) all = (weaker x all.0, each_weaker P Q weaker xs all.1)

pub each_of_both : {X : Type 0} (P : X → Type 0) (xs ys : List X) → AllByRecursion P xs → AllByRecursion P ys → AllByRecursion P (xs ++ ys)
each_of_both P [] ys all more = more
each_of_both P (x ∷ xs) ys all more = (all.0, each_of_both P xs ys all.1 more)

pub each_mapped : {X Y : Type 0} (P : Y → Type 0) (f : X → Y) (xs : List X) → AllByRecursion (λ x. P (f x)) xs → AllByRecursion P (map f xs)
each_mapped P f [] all = tt
each_mapped P f (x ∷ xs) all = (all.0, each_mapped P f xs all.1)

pub each_unmapped : {X Y : Type 0} (P : Y → Type 0) (f : X → Y) (xs : List X) → AllByRecursion P (map f xs) → AllByRecursion (λ x. P (f x)) xs
each_unmapped P f [] all = tt
each_unmapped P f (x ∷ xs) all = (all.0, each_unmapped P f xs all.1)

pub each : {X : Type 0} (P : X → Type 0) → ((x : X) → P x) → (xs : List X) → AllByRecursion P xs
each P it [] = tt
each P it (x ∷ xs) = (it x, each P it xs)

pub each_flat : {X Y : Type 0} (P : Y → Type 0) (f : X → List Y) (xs : List X) → AllByRecursion (λ x. AllByRecursion P (f x)) xs → AllByRecursion P (flat_map f xs)
each_flat P f [] all = tt
each_flat P f (x ∷ xs) all = each_of_both P (f x) (flat_map f xs) all.0 (each_flat P f xs all.1)

-- two tests that say the same of each element
pub any_agree : {X : Type 0} (test other : X → Bool) (xs : List X) → ((x : X) → test x ≡ other x) → list_any test xs ≡ list_any other xs
any_agree test other [] same = refl
any_agree test other (x ∷ xs) same = λ i. same x i || any_agree test other xs same i

-- ---- two lists that match, element by element

pub as_many : {X Y : Type 0} (is : X → Y → Type 0) (xs : List X) (ys : List Y) → AreAll is xs ys → length ys ≡ length xs
as_many is [] [] all = refl
as_many is (x ∷ xs) (y ∷ ys) all = ap suc (as_many is xs ys all.1)
as_many _ _ _ all = absurd (assumption)

pub are_both : {X D : Type 0} (Rel : X → D → Type 0) (xs ys : List X) (ds es : List D) → AreAll Rel xs ds → AreAll Rel ys es → AreAll Rel (xs ++ ys) (ds ++ es)
are_both Rel [] ys [] es one two = two
are_both Rel (x ∷ xs) ys (d ∷ ds) es one two = (one.0, are_both Rel xs ys ds es one.1 two)
are_both _ _ _ _ _ one _ = absurd (assumption)

-- what matching elements have in common, the lists have in common
pub in_common : {X Y Z : Type 0} (is : X → Y → Type 0) (f : X → Z) (h : Y → Z) → ((x : X) (y : Y) → is x y → f x ≡ h y) → (xs : List X) (ys : List Y) → AreAll is xs ys → map f xs ≡ map h ys
in_common is f h same [] [] all = refl
in_common is f h same (x ∷ xs) (y ∷ ys) all = λ i. same x y all.0 i ∷ in_common is f h same xs ys all.1 i
in_common _ _ _ _ _ _ all = absurd (assumption)

-- the element that matches the one at an index
pub matched_at : {X Y : Type 0} (is : X → Y → Type 0) (xs : List X) (ys : List Y) (index : ℕ) (y : Y) → AreAll is xs ys → slice_get ys index ≡ Some y → (x : X) × (slice_get xs index ≡ Some x) × is x y
matched_at is [] [] index y all there = absurd (cc)
matched_at is (x ∷ xs) (first ∷ ys) zero y all there = let same : first ≡ y = cc in (x, refl, subst (is x) same all.0)
matched_at is (x ∷ xs) (first ∷ ys) (suc index) y all there = matched_at is xs ys index y all.1 there
matched_at _ _ _ _ _ all _ = absurd (assumption)
