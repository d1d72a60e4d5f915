-- Lists of puts, one after another: their addresses, and how many of them go to each collection.
use Rattle.std.proofs.Common.{◌≡◌, ◌⊎◌, ◌∙◌, ap, sym, refl, subst, inl, inr, ℕ, zero, suc, ◌+◌, ◌<◌, List, [], ◌∷◌, ◌++◌, length, get_or, arith}
use native.Mathlib.Decide.{dec_lt}
use Rattle.terms.specs.declared.name.Addr.{Addr}
use Rattle.terms.specs.declared.name.ItemCollection.{ItemCollection}
use Rattle.terms.specs.declared.name.TagCollection.{TagCollection}
use Rattle.terms.specs.declared.put.Put.{Put}
use Rattle.terms.specs.declared.put.Put.TheVariants as put
use Rattle.terms.specs.declared.event.Event.{Event}
use Rattle.std.specs.List.{AllByRecursion}
use Rattle.graph.specs.Fits.{addresses, IsIn, IsTwiceIn}
use Rattle.machine.specs.Group.{puts_of_all}
use Rattle.machine.specs.Machine.{puts_of}
use Rattle.machine.specs.Putting.{items_to, tags_to}
use Rattle.machine.proofs.DistinctCounted.{times, in_counts, one_is_in, times_both, twice_counts, two_are_in}

pub addresses_both : (one two : List Put) → addresses (one ++ two) ≡ addresses one ++ addresses two
addresses_both [] two = refl
addresses_both (put.Item address value ∷ one) two = ap (λ (list : List Addr). address ∷ list) (addresses_both one two)
addresses_both (put.Tag name ∷ one) two = addresses_both one two

pub items_both : (c : ItemCollection) (one two : List Put) → items_to c (one ++ two) ≡ items_to c one + items_to c two
items_both c [] two = omega arith
items_both c (put.Item address value ∷ one) two = omega (arith, items_both c one two)
items_both c (put.Tag name ∷ one) two = items_both c one two

pub tags_both : (c : TagCollection) (one two : List Put) → tags_to c (one ++ two) ≡ tags_to c one + tags_to c two
tags_both c [] two = omega arith
tags_both c (put.Item address value ∷ one) two = tags_both c one two
tags_both c (put.Tag name ∷ one) two = omega (arith, tags_both c one two)

-- what holds of the puts of both lists holds of the puts of each
pub all_of_first : (P : Put → Type 0) (one two : List Put) → AllByRecursion P (one ++ two) → AllByRecursion P one
all_of_first P [] two all = tt
all_of_first P (first ∷ one) two all = (all.0, all_of_first P one two all.1)

pub all_of_second : (P : Put → Type 0) (one two : List Put) → AllByRecursion P (one ++ two) → AllByRecursion P two
all_of_second P [] two all = all
all_of_second P (first ∷ one) two all = all_of_second P one two all.1

-- ---- how often an address is among the puts

-- how many items of these puts are at the address
abbrev pub often : Addr → List Put → ℕ
often address puts = times address (addresses puts)

pub often_both : (address : Addr) (one two : List Put) → often address (one ++ two) ≡ often address one + often address two
often_both address one two = ap (times address) (addresses_both one two) ∙ times_both address (addresses one) (addresses two)

module _ (address : Addr) (one two : List Put) where
  pub in_first_list : IsIn address (addresses one) → IsIn address (addresses (one ++ two))
  in_first_list it = one_is_in address (addresses (one ++ two)) (omega (arith, in_counts address (addresses one) it, often_both address one two))

  pub in_second_list : IsIn address (addresses two) → IsIn address (addresses (one ++ two))
  in_second_list it = one_is_in address (addresses (one ++ two)) (omega (arith, in_counts address (addresses two) it, often_both address one two))

  pub in_one_list : IsIn address (addresses (one ++ two)) → IsIn address (addresses one) ⊎ IsIn address (addresses two)
  in_one_list it = elim (dec_lt 0 (often address one)) [
    | yes is ↦ inl (one_is_in address (addresses one) (omega (arith, is)))
    | no not ↦ inr (one_is_in address (addresses two) (omega (arith, in_counts address (addresses (one ++ two)) it, often_both address one two, not)))
  ]

  pub twice_first_list : IsTwiceIn address (addresses one) → IsTwiceIn address (addresses (one ++ two))
  twice_first_list it = two_are_in address (addresses (one ++ two)) (omega (arith, twice_counts address (addresses one) it, often_both address one two))

  pub twice_second_list : IsTwiceIn address (addresses two) → IsTwiceIn address (addresses (one ++ two))
  twice_second_list it = two_are_in address (addresses (one ++ two)) (omega (arith, twice_counts address (addresses two) it, often_both address one two))

  pub twice_over_both : IsIn address (addresses one) → IsIn address (addresses two) → IsTwiceIn address (addresses (one ++ two))
  twice_over_both here there =
      two_are_in address (addresses (one ++ two)) (omega (arith, in_counts address (addresses one) here, in_counts address (addresses two) there, often_both address one two))

  -- an address that is twice in both is in both, or twice in one of them
  pub twice_in_one_list : IsTwiceIn address (addresses (one ++ two))
      → IsTwiceIn address (addresses one) ⊎ (IsIn address (addresses one) × IsIn address (addresses two)) ⊎ IsTwiceIn address (addresses two)
  twice_in_one_list it =
      let many = twice_counts address (addresses (one ++ two)) it in
      let sum = often_both address one two in
      elim (dec_lt 1 (often address one)) [
        | yes is ↦ inl (two_are_in address (addresses one) (omega (arith, is)))
        | no few ↦ elim (dec_lt 0 (often address one)) [
          | yes some ↦ inr (inl (one_is_in address (addresses one) (omega (arith, some)), one_is_in address (addresses two) (omega (arith, many, sum, few))))
          | no none ↦ inr (inr (two_are_in address (addresses two) (omega (arith, many, sum, none))))
        ]
      ]

-- what holds of the puts of all these events holds of those of each
pub places_at : (P : Put → Type 0) (n : ℕ) (events : List Event) (one : Event) → AllByRecursion P (puts_of_all events) → n < length events → one ≡ get_or events n one → AllByRecursion P (puts_of one)
places_at P n [] one all within is = absurd (omega (arith, within))
places_at P zero (first ∷ rest) one all within is = subst (λ (e : Event). AllByRecursion P (puts_of e)) (sym is) (all_of_first P (puts_of first) (puts_of_all rest) all)
places_at P (suc n) (first ∷ rest) one all within is = places_at P n rest one (all_of_second P (puts_of first) (puts_of_all rest) all) (omega (arith, within)) is

-- what holds of each event holds of the one at an index
pub event_at : (P : Event → Type 0) (n : ℕ) (events : List Event) (one : Event) → AllByRecursion P events → n < length events → one ≡ get_or events n one → P one
event_at P n [] one all within is = absurd (omega (arith, within))
event_at P zero (first ∷ rest) one all within is = subst P (sym is) all.0
event_at P (suc n) (first ∷ rest) one all within is = event_at P n rest one all.1 (omega (arith, within)) is
