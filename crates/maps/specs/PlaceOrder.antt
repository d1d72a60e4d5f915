-- The orders of keys and of places are total, and only equal ones tie.
use Rattle.std.specs.Prelude.{◌≡◌, refl}
use Rattle.std.specs.declared.cmp.Ordering.{Ordering}
use Rattle.std.specs.declared.cmp.Ordering.TheVariants.{Less, Equal, Greater}
use Rattle.std.specs.Ordering.{nat_cmp, ordering_then}
use Rattle.std.specs.Cmp.{IsTotalOrder, int_cmp_total, nat_cmp_total}
use Rattle.std.specs.FinMap.{IsAntisymmetric, int_cmp-IsAntisymmetric, nat_cmp-IsAntisymmetric, slice_cmp-IsAntisymmetric}
use Rattle.std.proofs.lemmas.Cmp.{on_total, then_total, lists_total}
use Rattle.terms.specs.Key.{key_cmp}
use Rattle.maps.specs.Numbered.{Place, place_cmp}

pub keys_total : IsTotalOrder key_cmp
keys_total = lists_total int_cmp_total

pub same_key : IsAntisymmetric key_cmp
same_key = slice_cmp-IsAntisymmetric int_cmp-IsAntisymmetric

pub places_total : IsTotalOrder place_cmp
places_total = then_total (on_total (λ (a : Place). a.0) nat_cmp_total) (on_total (λ a. a.1) (lists_total int_cmp_total))

both_tie : (first second : Ordering) → ordering_then first second ≡ Equal → (first ≡ Equal) × (second ≡ Equal)
both_tie Less second tie = absurd (cc)
both_tie Equal second tie = (refl, tie)
both_tie Greater second tie = absurd (cc)

pub same_places : IsAntisymmetric place_cmp
same_places a b tie =
    let parts = both_tie (nat_cmp a.0 b.0) (key_cmp a.1 b.1) tie in
    λ i. (nat_cmp-IsAntisymmetric a.0 b.0 parts.0 i, same_key a.1 b.1 parts.1 i)
