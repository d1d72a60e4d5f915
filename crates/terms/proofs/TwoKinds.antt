-- The order of values of two kinds, each of the first before each of the second; puts and producers are such values.
use Rattle.std.proofs.Common.{◌≡◌, ◌⊎◌, ℕ, ℤ, inl, inr, refl, subst}
use Rattle.std.specs.declared.cmp.Ordering.{Ordering}
use Rattle.std.specs.declared.cmp.Ordering.TheVariants.{Less, Equal, Greater}
use Rattle.std.specs.Ordering.{nat_cmp, int_cmp, on, ordering_reverse, then_cmp}
use Rattle.std.specs.Cmp.{IsTotalOrder, int_cmp_total, nat_cmp_total, on_total, then_total}
use Rattle.std.specs.Cmp.Derive.{point_total}
use Rattle.std.specs.FinMap.{IsAntisymmetric, int_cmp-IsAntisymmetric, nat_cmp-IsAntisymmetric}
use Rattle.terms.specs.declared.name.Addr.{Addr}
use Rattle.terms.specs.declared.name.Tag.{Tag}
use Rattle.terms.specs.declared.name.Inst.{Inst}
use Rattle.terms.specs.declared.producer.Producer.{Producer}
use Rattle.terms.specs.declared.producer.Producer.TheVariants.{Env, By}
use Rattle.terms.specs.declared.put.Put.{Put}
use Rattle.terms.specs.declared.put.Put.TheVariants as put
use Rattle.terms.specs.Name.{addr_cmp, tag_cmp, inst_cmp}
use Rattle.terms.specs.Put.{put_cmp, producer_cmp}
use Rattle.terms.proofs.Numbered.{both_tie, addresses_total, addresses_tie, tags_total, tags_tie, instances_total, instances_tie}

module _ {A B : Type 0} (R : A → A → Ordering) (S : B → B → Ordering) where
  -- two of one kind by the order of their kind, and the first kind first
  abbrev kinds_cmp : A ⊎ B → A ⊎ B → Ordering
  kinds_cmp (inl x) (inl y) = R x y
  kinds_cmp (inl x) (inr y) = Less
  kinds_cmp (inr x) (inl y) = Greater
  kinds_cmp (inr x) (inr y) = S x y

  module _ (first : IsTotalOrder R) (second : IsTotalOrder S) where
    turned : (x y : A ⊎ B) → kinds_cmp x y ≡ ordering_reverse (kinds_cmp y x)
    turned (inl x) (inl y) = first.antisymm x y
    turned (inl x) (inr y) = refl
    turned (inr x) (inl y) = refl
    turned (inr x) (inr y) = second.antisymm x y

    chained : (x y z : A ⊎ B) → kinds_cmp x y ≡ Less → kinds_cmp y z ≡ Less → kinds_cmp x z ≡ Less
    chained (inl x) (inl y) (inl z) p q = first.trans x y z p q
    chained (inl x) (inl y) (inr z) p q = refl
    chained (inl x) (inr y) (inl z) p q = absurd (cc)
    chained (inl x) (inr y) (inr z) p q = refl
    chained (inr x) (inl y) z p q = absurd (cc)
    chained (inr x) (inr y) (inl z) p q = absurd (cc)
    chained (inr x) (inr y) (inr z) p q = second.trans x y z p q

    alike : (x y z : A ⊎ B) → kinds_cmp x y ≡ Equal → kinds_cmp x z ≡ kinds_cmp y z
    alike (inl x) (inl y) (inl z) tie = first.congr x y z tie
    alike (inl x) (inl y) (inr z) tie = refl
    alike (inl x) (inr y) z tie = absurd (cc)
    alike (inr x) (inl y) z tie = absurd (cc)
    alike (inr x) (inr y) (inl z) tie = refl
    alike (inr x) (inr y) (inr z) tie = second.congr x y z tie

    -- an order that compares two values as `kinds_cmp` compares their kinds
    kinds_total : {K : Type 0} (kind : K → A ⊎ B) (T : K → K → Ordering) → ((x y : K) → kinds_cmp (kind x) (kind y) ≡ T x y) → IsTotalOrder T
    kinds_total {K} kind T same =
        subst (λ (U : K → K → Ordering). IsTotalOrder U) (λ i x y. same x y i) (on_total kind (record { antisymm = turned; trans = chained; congr = alike }))

abbrev put_kind : Put → (Addr × ℤ) ⊎ Tag
put_kind (put.Item address value) = inl (address, value)
put_kind (put.Tag name) = inr name

abbrev item_cmp : Addr × ℤ → Addr × ℤ → Ordering
item_cmp = then_cmp (on (λ (p : Addr × ℤ). p.0) addr_cmp) (on (λ (p : Addr × ℤ). p.1) int_cmp)

items_total : IsTotalOrder item_cmp
items_total = then_total (on_total (λ (p : Addr × ℤ). p.0) addresses_total) (on_total (λ (p : Addr × ℤ). p.1) int_cmp_total)

put_same : (x y : Put) → kinds_cmp item_cmp tag_cmp (put_kind x) (put_kind y) ≡ put_cmp x y
put_same (put.Item a v) (put.Item b w) = refl
put_same (put.Item a v) (put.Tag b) = refl
put_same (put.Tag a) (put.Item b w) = refl
put_same (put.Tag a) (put.Tag b) = refl

pub puts_total : IsTotalOrder put_cmp
puts_total = kinds_total item_cmp tag_cmp items_total tags_total put_kind put_cmp put_same

pub puts_tie : IsAntisymmetric put_cmp
puts_tie (put.Item a v) (put.Item b w) tie =
    let both = both_tie (addr_cmp a b) (int_cmp v w) tie in
    λ i. put.Item (addresses_tie a b both.0 i) (int_cmp-IsAntisymmetric v w both.1 i)
puts_tie (put.Item a v) (put.Tag b) tie = absurd (cc)
puts_tie (put.Tag a) (put.Item b w) tie = absurd (cc)
puts_tie (put.Tag a) (put.Tag b) tie = λ i. put.Tag (tags_tie a b tie i)

abbrev producer_kind : Producer → Unit {0} ⊎ (Inst × ℕ)
producer_kind Env = inl tt
producer_kind (By instance number) = inr (instance, number)

abbrev none_cmp : Unit {0} → Unit {0} → Ordering
none_cmp x y = Equal

abbrev own_cmp : Inst × ℕ → Inst × ℕ → Ordering
own_cmp = then_cmp (on (λ (p : Inst × ℕ). p.0) inst_cmp) (on (λ (p : Inst × ℕ). p.1) nat_cmp)

own_total : IsTotalOrder own_cmp
own_total = then_total (on_total (λ (p : Inst × ℕ). p.0) instances_total) (on_total (λ (p : Inst × ℕ). p.1) nat_cmp_total)

producer_same : (x y : Producer) → kinds_cmp none_cmp own_cmp (producer_kind x) (producer_kind y) ≡ producer_cmp x y
producer_same Env Env = refl
producer_same Env (By b n) = refl
producer_same (By a m) Env = refl
producer_same (By a m) (By b n) = refl

pub producers_total : IsTotalOrder producer_cmp
producers_total = kinds_total none_cmp own_cmp point_total own_total producer_kind producer_cmp producer_same

pub producers_tie : IsAntisymmetric producer_cmp
producers_tie Env Env tie = refl
producers_tie Env (By b n) tie = absurd (cc)
producers_tie (By a m) Env tie = absurd (cc)
producers_tie (By a m) (By b n) tie =
    let both = both_tie (inst_cmp a b) (nat_cmp m n) tie in
    λ i. By (instances_tie a b both.0 i) (nat_cmp-IsAntisymmetric m n both.1 i)
