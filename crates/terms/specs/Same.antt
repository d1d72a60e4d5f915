-- Tests of equality, and the one for addresses that definitions use: maps and sets compare by the order, so it does too.
use Rattle.std.specs.Prelude.{◌≡◌, ◌↔◌, Bool, true}
use Rattle.std.specs.Ordering.{is_eq, nat_cmp, ordering_then}
use Rattle.std.specs.declared.cmp.Ordering.{Ordering}
use Rattle.std.specs.declared.cmp.Ordering.TheVariants.{Less, Equal, Greater}
use Rattle.std.specs.Cmp.{IsTotalOrder, Equal-is}
use Rattle.std.specs.FinMap.{int_cmp-IsAntisymmetric, nat_cmp-IsAntisymmetric, slice_cmp-IsAntisymmetric}
use Rattle.std.proofs.Common.{refl, ap, subst}
use Rattle.std.proofs.lemmas.Cmp.{tied_itself, nat_cmp_total, int_cmp_total, on_total, then_total, lists_total}
use Rattle.terms.specs.declared.name.Addr.{Addr}
use Rattle.terms.specs.Key.{key_cmp}
use Rattle.terms.specs.Name.{addr_cmp}

-- the test is true exactly when the two values are the same
abbrev pub TellsEqual : {X : Type 0} → (X → X → Bool) → Type 0
TellsEqual {X} is_one = (one two : X) → (is_one one two ≡ true) ↔ (one ≡ two)

abbrev pub is_same : Addr → Addr → Bool
is_same a b = is_eq (addr_cmp a b)

in_order : IsTotalOrder addr_cmp
in_order = then_total (on_total (λ (a : Addr). a.collection.0) nat_cmp_total) (on_total (λ a. a.key) (lists_total int_cmp_total))

pub same_itself : (address : Addr) → is_same address address ≡ true
same_itself address = ap is_eq (tied_itself in_order address)

both_tie : (first second : Ordering) → ordering_then first second ≡ Equal → (first ≡ Equal) × (second ≡ Equal)
both_tie Less second tie = absurd (cc)
both_tie Equal second tie = (refl, tie)
both_tie Greater second tie = absurd (cc)

pub same_address : (a b : Addr) → is_same a b ≡ true → a ≡ b
same_address a b same =
    let tie = both_tie (nat_cmp a.collection.0 b.collection.0) (key_cmp a.key b.key) ((Equal-is (addr_cmp a b)).0 same) in
    let number = nat_cmp-IsAntisymmetric a.collection.0 b.collection.0 tie.0 in
    let key = slice_cmp-IsAntisymmetric int_cmp-IsAntisymmetric a.key b.key tie.1 in
    λ i. record { collection = record { 0 = number i }; key = key i }

pub tells_same : TellsEqual is_same
tells_same a b = (same_address a b, λ is. subst (λ (other : Addr). is_same a other ≡ true) is (same_itself a))
