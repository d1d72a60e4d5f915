-- The order of values that have a collection's number and a key.
use Rattle.std.proofs.Common.{◌≡◌, ℕ, ℤ, List, refl}
use Rattle.std.specs.declared.cmp.Ordering.{Ordering}
use Rattle.std.specs.declared.cmp.Ordering.TheVariants.{Less, Equal, Greater}
use Rattle.std.specs.Ordering.{nat_cmp, on, ordering_then, then_cmp}
use Rattle.std.specs.Cmp.{IsTotalOrder, int_cmp_total, nat_cmp_total, on_total, then_total}
use Rattle.std.specs.Cmp.Lexicographic.{lists_total}
use Rattle.std.specs.FinMap.{IsAntisymmetric, int_cmp-IsAntisymmetric, nat_cmp-IsAntisymmetric, slice_cmp-IsAntisymmetric}
use Rattle.terms.specs.declared.name.Addr.{Addr}
use Rattle.terms.specs.declared.name.Tag.{Tag}
use Rattle.terms.specs.declared.name.Inst.{Inst}
use Rattle.terms.specs.Key.{key_cmp}
use Rattle.terms.specs.Name.{addr_cmp, tag_cmp, inst_cmp}

pub keys_total : IsTotalOrder key_cmp
keys_total = lists_total int_cmp_total

pub keys_tie : IsAntisymmetric key_cmp
keys_tie = slice_cmp-IsAntisymmetric int_cmp-IsAntisymmetric

-- one order and then another tie only where both do
pub both_tie : (first second : Ordering) → ordering_then first second ≡ Equal → (first ≡ Equal) × (second ≡ Equal)
both_tie Less second tie = absurd (cc)
both_tie Equal second tie = (refl, tie)
both_tie Greater second tie = absurd (cc)

module _ {K : Type 0} (number : K → ℕ) (key : K → List ℤ) where
  abbrev numbered_cmp : K → K → Ordering
  numbered_cmp = then_cmp (on number nat_cmp) (on key key_cmp)

  numbered_total : IsTotalOrder numbered_cmp
  numbered_total = then_total (on_total number nat_cmp_total) (on_total key keys_total)

  numbered_tie : ((a b : K) → number a ≡ number b → key a ≡ key b → a ≡ b) → IsAntisymmetric numbered_cmp
  numbered_tie whole a b tie =
      let both = both_tie (nat_cmp (number a) (number b)) (key_cmp (key a) (key b)) tie in
      whole a b (nat_cmp-IsAntisymmetric (number a) (number b) both.0) (keys_tie (key a) (key b) both.1)

pub addresses_total : IsTotalOrder addr_cmp
addresses_total = numbered_total (λ (a : Addr). a.collection.0) (λ a. a.key)

pub addresses_tie : IsAntisymmetric addr_cmp
addresses_tie = numbered_tie (λ (a : Addr). a.collection.0) (λ a. a.key) (λ a b number key. λ i. record { collection = record { 0 = number i }; key = key i })

pub tags_total : IsTotalOrder tag_cmp
tags_total = numbered_total (λ (a : Tag). a.collection.0) (λ a. a.key)

pub tags_tie : IsAntisymmetric tag_cmp
tags_tie = numbered_tie (λ (a : Tag). a.collection.0) (λ a. a.key) (λ a b number key. λ i. record { collection = record { 0 = number i }; key = key i })

pub instances_total : IsTotalOrder inst_cmp
instances_total = numbered_total (λ (a : Inst). a.collection.0) (λ a. a.key)

pub instances_tie : IsAntisymmetric inst_cmp
instances_tie = numbered_tie (λ (a : Inst). a.collection.0) (λ a. a.key) (λ a b number key. λ i. record { collection = record { 0 = number i }; key = key i })
