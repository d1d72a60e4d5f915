-- How the order of keys compares two lists of components.
use Rattle.std.proofs.Common.{◌≡◌, ◌≢◌, ℤ, List, [], ◌∷◌, ◌++◌, refl, ap, ◌∙◌}
use Rattle.std.specs.declared.cmp.Ordering.{Ordering}
use Rattle.std.specs.declared.cmp.Ordering.TheVariants.{Less, Equal, Greater}
use Rattle.std.specs.Ordering.{int_cmp, ordering_then}
use Rattle.std.specs.Cmp.{int_cmp_total, tied_itself}
use Rattle.std.specs.FinMap.{int_cmp-IsAntisymmetric}
use Rattle.terms.specs.Key.{key_cmp, BeginningFirst, FirstDifferenceDecides}

-- after an equal component the rest decides
same_first : (x : ℤ) (xs ys : List ℤ) → key_cmp (x ∷ xs) (x ∷ ys) ≡ key_cmp xs ys
same_first x xs ys = ap (λ (r : Ordering). ordering_then r (key_cmp xs ys)) (tied_itself int_cmp_total x)

-- after two components that differ, the rest does not matter
decided : (r rest : Ordering) → r ≢ Equal → ordering_then r rest ≡ r
decided Less rest differ = refl
decided Equal rest differ = absurd (differ refl)
decided Greater rest differ = refl

pub beginning_first : BeginningFirst
beginning_first [] next rest = refl
beginning_first (x ∷ xs) next rest = same_first x xs (xs ++ next ∷ rest) ∙ beginning_first xs next rest

pub first_difference_decides : FirstDifferenceDecides
first_difference_decides [] x y xs ys differ = decided (int_cmp x y) (key_cmp xs ys) (λ tie. differ (int_cmp-IsAntisymmetric x y tie))
first_difference_decides (z ∷ zs) x y xs ys differ =
    same_first z (zs ++ x ∷ xs) (zs ++ y ∷ ys) ∙ first_difference_decides zs x y xs ys differ
