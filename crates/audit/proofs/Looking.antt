-- What is learnt where marks, or a graph, are looked at.
use Rattle.std.proofs.Common.{◌≡◌, ◌∙◌, ℕ, ℤ, Bool, true, false, cond, IsSomeAnd, Option, None, Some, refl, sym, ap, subst}
use Rattle.std.proofs.lemmas.Bool.{false≢true}
use Rattle.std.specs.Prelude.{is_some, slice_get}
use Rattle.std.specs.Option.{option_map}
use Rattle.std.specs.Bool.{then_some}
use Rattle.terms.specs.declared.name.Addr.{Addr}
use Rattle.terms.specs.declared.name.Inst.{Inst}
use Rattle.terms.specs.declared.name.Tag.{Tag}
use Rattle.terms.specs.declared.name.TagCollection.{TagCollection}
use Rattle.terms.specs.declared.producer.Producer.{Producer}
use Rattle.terms.specs.Facts.{item}
use Rattle.terms.specs.Sets.{OneFact}
use Rattle.graph.specs.Graph.{Graph, Prescribes, Step}
use Rattle.graph.specs.Fits.{IsAbsent}
use Rattle.items.specs.Held.{item_at}
use Rattle.machine.specs.Machine.{IsValueAt, facts}
use Rattle.machine.specs.Marked.{IsItemLeft, IsPartOfStore, Marks, item_in, marked}
use Rattle.audit.proofs.Left.{held, is_held}
use Rattle.audit.proofs.Stated.{never}

-- ---- whether something is marked

pub not_done : (has is : Bool) → (is ≡ true → has ≡ true) → None ≡ cond has (Some is) None → false ≡ is
not_done true is part same = absurd (cc)
not_done false true part same = absurd (false≢true (part refl))
not_done false false part same = refl

pub no_tag : (o : Option Bool) (is : Bool) → (is ≡ true → is_some o ≡ true) → ◌≡◌ {A = Option (Bool × Bool)} None (option_map (λ (g : Bool). (g, is)) o) → false ≡ is
no_tag o true part same = absurd (none o (part refl) same)
  where
    none : (o : Option Bool) → is_some o ≡ true → ◌≡◌ {A = Option (Bool × Bool)} None (option_map (λ (g : Bool). (g, true)) o) → ⊥
    none None some same = false≢true some
    none (Some g) some same = cc
no_tag o false part same = refl

-- ---- items

abbrev with_mark : Marks → Addr → ℤ × Producer → ℤ × Producer × Bool
with_mark m address there = (there.0, there.1, marked m (item address there.0 there.1))

item_told : (m : Marks) (address : Addr) (value : ℤ) (by : Producer) (b : Bool) → ◌≡◌ {A = Option (ℤ × Producer × Bool)} (Some (value, by, b)) (item_in m address) → marked m (item address value by) ≡ b
item_told m address value by b same = at (item_at m.store.memory.items address) same
  where
    at : (o : Option (ℤ × Producer)) → ◌≡◌ {A = Option (ℤ × Producer × Bool)} (Some (value, by, b)) (option_map (with_mark m address) o) → marked m (item address value by) ≡ b
    at None is = absurd (cc)
    at (Some there) is = there_is (inside is)
      where
        inside : ◌≡◌ {A = Option (ℤ × Producer × Bool)} (Some (value, by, b)) (Some (with_mark m address there)) → ◌≡◌ {A = ℤ × Producer × Bool} (value, by, b) (with_mark m address there)
        inside same = cc

        there_is : ◌≡◌ {A = ℤ × Producer × Bool} (value, by, b) (with_mark m address there) → marked m (item address value by) ≡ b
        there_is same = (λ i. marked m (item address (same i).0 (same i).1)) ∙ sym (λ i. (same i).2)

module _ (told : OneFact) (m : Marks) where
  -- what is marked is what a look-up tells
  pub absent : IsPartOfStore m → (address : Addr) (o : Option (ℤ × Producer × Bool)) → o ≡ item_in m address → ((value : ℤ) (by : Producer) → ◌≡◌ {A = Option (ℤ × Producer × Bool)} o (Some (value, by, true)) → ⊥) → IsAbsent (marked m) address
  absent part address o is not value by = never (marked m (item address value by)) is_not
    where
      is_not : marked m (item address value by) ≡ true → ⊥
      is_not there =
          let at : item_at m.store.memory.items address ≡ Some (value, by) = held told (item_at m.store.memory.items address) address value by (part (item address value by) there) in
          not value by (is ∙ ap (λ (x : Option (ℤ × Producer)). option_map (with_mark m address) x) at ∙ ap (λ (b : Bool). Some (value, by, b)) there)

  pub nothing_is_absent : IsPartOfStore m → (address : Addr) → ◌≡◌ {A = Option (ℤ × Producer × Bool)} None (item_in m address) → IsAbsent (marked m) address
  nothing_is_absent part address is = absent part address None is not
    where
      not : (value : ℤ) (by : Producer) → ◌≡◌ {A = Option (ℤ × Producer × Bool)} None (Some (value, by, true)) → ⊥
      not value by same = cc

  -- an item that is there, with its mark
  pub value_told : IsPartOfStore m → (address : Addr) (v : ℤ) (p : Producer) (mark : Bool) (told_value : Option ℤ) → ◌≡◌ {A = Option (ℤ × Producer × Bool)} (Some (v, p, mark)) (item_in m address) → told_value ≡ then_some mark v → IsValueAt (marked m) address told_value
  value_told part address v p mark told_value is same = subst (λ (o : Option ℤ). IsValueAt (marked m) address o) (sym same) (at mark refl)
    where
      inside : (value : ℤ) (by : Producer) → ◌≡◌ {A = Option (ℤ × Producer × Bool)} (Some (v, p, mark)) (Some (value, by, true)) → ◌≡◌ {A = ℤ × Producer × Bool} (v, p, mark) (value, by, true)
      inside value by same = cc

      last : (value : ℤ) (by : Producer) → ◌≡◌ {A = ℤ × Producer × Bool} (v, p, mark) (value, by, true) → mark ≡ true
      last value by same = λ i. (same i).2

      at : (b : Bool) → mark ≡ b → IsValueAt (marked m) address (then_some b v)
      at true so = (p, item_told m address v p mark is ∙ so)
      at false so = absent part address (Some (v, p, mark)) is (λ value by same. false≢true (sym so ∙ last value by (inside value by same)))

  -- an item that is left
  pub record LeftAt (address : Addr) : Type 0 where
    pub value : ℤ
    pub by : Producer
    pub there : facts m.store (item address value by) ≡ true
    pub unmarked : marked m (item address value by) ≡ false

  pub left_at : (address : Addr) → IsItemLeft m address → LeftAt address
  left_at address left = at (item_at m.store.memory.items address) refl left
    where
      at : (o : Option (ℤ × Producer)) → item_at m.store.memory.items address ≡ o → IsItemLeft m address → LeftAt address
      at None is none = absurd (subst (λ (x : Option (ℤ × Producer)). IsSomeAnd (option_map (with_mark m address) x) (λ there. there.2 ≡ false)) is none)
      at (Some it) is some = record {
        value = it.0;
        by = it.1;
        there = is_held told (item_at m.store.memory.items address) address it.0 it.1 is;
        unmarked = subst (λ (x : Option (ℤ × Producer)). IsSomeAnd (option_map (with_mark m address) x) (λ there. there.2 ≡ false)) is some;
      }

-- ---- what prescribes an instance

module _ (g : Graph) (instance : Inst) where
  pub prescribes : (collection : TagCollection) → Some collection.0 ≡ option_map (λ (step : Step). step.prescriber) (slice_get g.steps instance.collection.0) → Prescribes g (record { collection = collection; key = instance.key }) instance
  prescribes collection is = at (slice_get g.steps instance.collection.0) refl is
    where
      at : (o : Option Step) → slice_get g.steps instance.collection.0 ≡ o → Some collection.0 ≡ option_map (λ (step : Step). step.prescriber) o → Prescribes g (record { collection = collection; key = instance.key }) instance
      at None found same = absurd (cc)
      at (Some step) found same = record { step = step; is_step = found; prescriber = inside same; key = refl }
        where
          inside : Some collection.0 ≡ Some step.prescriber → step.prescriber ≡ collection.0
          inside same = cc

  pub the_prescriber : (collection : TagCollection) → Some collection.0 ≡ option_map (λ (step : Step). step.prescriber) (slice_get g.steps instance.collection.0) → (name : Tag) → Prescribes g name instance
      → name ≡ record { collection = collection; key = instance.key }
  the_prescriber collection is name it =
      let one : ◌≡◌ {A = Option ℕ} (Some collection.0) (Some it.step.prescriber) = is ∙ ap (λ (o : Option Step). option_map (λ (step : Step). step.prescriber) o) it.is_step in
      let number : name.collection.0 ≡ collection.0 = sym it.prescriber ∙ inside one in
      λ i. record { collection = record { 0 = number i }; key = it.key i }
    where
      inside : {a b : ℕ} → Some a ≡ Some b → b ≡ a
      inside same = cc
