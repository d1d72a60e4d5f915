-- The facts of a list of puts.
use Rattle.std.proofs.Common.{◌≡◌, ℕ, suc, ℤ, true, List, [], ◌∷◌, ◌++◌, inl, inr, refl, sym, ap, subst, ◌∙◌}
use Rattle.std.proofs.lemmas.Bool.{false≢true}
use Rattle.terms.specs.declared.name.Addr.{Addr}
use Rattle.terms.specs.declared.name.Inst.{Inst}
use Rattle.terms.specs.declared.producer.Producer.{Producer}
use Rattle.terms.specs.declared.producer.Producer.TheVariants.{By}
use Rattle.terms.specs.declared.put.Put.{Put}
use Rattle.terms.specs.declared.put.Put.TheVariants as put
use Rattle.terms.specs.Facts.{Fact, tag, item, done, put_facts}
use Rattle.terms.specs.Sets.{among, OneFact}
use Rattle.graph.specs.Fits.{addresses, IsIn, IsTwiceIn}
use Rattle.machine.proofs.Sets.{of_list, the_first, behind_first}

pub in_first : (address : Addr) (rest : List Addr) → IsIn address (address ∷ rest)
in_first address rest = ([], rest, refl)

pub in_rest : (first : Addr) (rest : List Addr) (address : Addr) → IsIn address rest → IsIn address (first ∷ rest)
in_rest first rest address it = (first ∷ it.0, it.1, ap (λ xs. first ∷ xs) it.2)

pub twice_first : (address : Addr) (rest : List Addr) → IsIn address rest → IsTwiceIn address (address ∷ rest)
twice_first address rest it = ([], it.0, it.1, ap (λ xs. address ∷ xs) it.2)

pub twice_rest : (first : Addr) (rest : List Addr) (address : Addr) → IsTwiceIn address rest → IsTwiceIn address (first ∷ rest)
twice_rest first rest address it = (first ∷ it.0, it.1, it.2, ap (λ xs. first ∷ xs) it.3)

-- equal items have equal parts
same_address : (a b : Addr) (v w : ℤ) (p q : Producer) → item a v p ≡ item b w q → a ≡ b
same_address a b v w p q same = cc

same_value : (a b : Addr) (v w : ℤ) (p q : Producer) → item a v p ≡ item b w q → v ≡ w
same_value a b v w p q same = cc

same_producer : (a b : Addr) (v w : ℤ) (p q : Producer) → item a v p ≡ item b w q → p ≡ q
same_producer a b v w p q same = cc

module _ (told : OneFact) where
  -- an item of these facts is of one of the puts, and by the instance
  pub item_is_put : (instance : Inst) (number : ℕ) (puts : List Put) (address : Addr) (value : ℤ) (by : Producer) → among (put_facts instance number puts) (item address value by) ≡ true
      → IsIn address (addresses puts) × ((m : ℕ) × (by ≡ By instance m))
  item_is_put instance number [] address value by holds = absurd (false≢true holds)
  item_is_put instance number (put.Item other w ∷ puts) address value by holds =
      elim (of_list told (item other w (By instance number)) (put_facts instance (suc number) puts) (item address value by) holds) [
        | inl here ↦ (subst (λ (a : Addr). IsIn a (other ∷ addresses puts)) (same_address other address w value (By instance number) by here) (in_first other (addresses puts)), (number, sym (same_producer other address w value (By instance number) by here)))
        | inr later ↦ (let it = item_is_put instance (suc number) puts address value by later in (in_rest other (addresses puts) address it.0, it.1))
      ]
  item_is_put instance number (put.Tag name ∷ puts) address value by holds =
      elim (of_list told (tag name) (put_facts instance (suc number) puts) (item address value by) holds) [
        | inl here ↦ absurd (cc)
        | inr later ↦ item_is_put instance (suc number) puts address value by later
      ]

  -- an item of these facts at an address
  abbrev pub ItemAt : Inst → List Fact → Addr → Type 0
  ItemAt instance list address = (value : ℤ) × (m : ℕ) × (among list (item address value (By instance m)) ≡ true)

  nothing : (address : Addr) (before behind : List Addr) → [] ≡ before ++ address ∷ behind → ⊥
  nothing address [] behind same = cc
  nothing address (x ∷ xs) behind same = cc

  item_behind : (instance : Inst) (first : Fact) (rest : List Fact) (address : Addr) → ItemAt instance rest address → ItemAt instance (first ∷ rest) address
  item_behind instance first rest address found = (found.0, found.1, behind_first told first rest (item address found.0 (By instance found.1)) found.2)

  item_of : (instance : Inst) (number : ℕ) (other : Addr) (w : ℤ) (rest : List Addr) (list : List Fact) (address : Addr) → (IsIn address rest → ItemAt instance list address)
      → (before behind : List Addr) → other ∷ rest ≡ before ++ address ∷ behind → ItemAt instance (item other w (By instance number) ∷ list) address
  item_of instance number other w rest list address later [] behind same =
      let one : other ≡ address = cc in
      (w, number, subst (λ (a : Addr). among (item other w (By instance number) ∷ list) (item a w (By instance number)) ≡ true) one (the_first told (item other w (By instance number)) list))
  item_of instance number other w rest list address later (x ∷ xs) behind same =
      let it : rest ≡ xs ++ address ∷ behind = cc in
      item_behind instance (item other w (By instance number)) list address (later (xs, behind, it))

  -- each of the puts has its item among these facts
  pub put_has_item : (instance : Inst) (number : ℕ) (puts : List Put) (address : Addr) → IsIn address (addresses puts) → ItemAt instance (put_facts instance number puts) address
  put_has_item instance number [] address it = absurd (nothing address it.0 it.1 it.2)
  put_has_item instance number (put.Item other w ∷ puts) address it =
      item_of instance number other w (addresses puts) (put_facts instance (suc number) puts) address (put_has_item instance (suc number) puts address) it.0 it.1 it.2
  put_has_item instance number (put.Tag name ∷ puts) address it =
      item_behind instance (tag name) (put_facts instance (suc number) puts) address (put_has_item instance (suc number) puts address it)

  -- if no two of the puts are at one address, no two of the items are
  pub one_item_each : (instance : Inst) (number : ℕ) (puts : List Put) → ((address : Addr) → IsTwiceIn address (addresses puts) → ⊥) → (address : Addr) (v w : ℤ) (p q : Producer)
      → among (put_facts instance number puts) (item address v p) ≡ true → among (put_facts instance number puts) (item address w q) ≡ true → (v ≡ w) × (p ≡ q)
  one_item_each instance number [] distinct address v w p q one two = absurd (false≢true one)
  one_item_each instance number (put.Item other u ∷ puts) distinct address v w p q one two =
      elim (of_list told (item other u (By instance number)) (put_facts instance (suc number) puts) (item address v p) one) [
        | inl here ↦ elim (of_list told (item other u (By instance number)) (put_facts instance (suc number) puts) (item address w q) two) [
          | inl too ↦ (
            sym (same_value other address u v (By instance number) p here) ∙ same_value other address u w (By instance number) q too,
            sym (same_producer other address u v (By instance number) p here) ∙ same_producer other address u w (By instance number) q too,
          )
          | inr later ↦ absurd (again (same_address other address u v (By instance number) p here) (item_is_put instance (suc number) puts address w q later).0)
        ]
        | inr later ↦ elim (of_list told (item other u (By instance number)) (put_facts instance (suc number) puts) (item address w q) two) [
          | inl here ↦ absurd (again (same_address other address u w (By instance number) q here) (item_is_put instance (suc number) puts address v p later).0)
          | inr too ↦ one_item_each instance (suc number) puts (λ a it. distinct a (twice_rest other (addresses puts) a it)) address v w p q later too
        ]
      ]
    where
      again : other ≡ address → IsIn address (addresses puts) → ⊥
      again same it = distinct address (subst (λ (a : Addr). IsTwiceIn address (a ∷ addresses puts)) (sym same) (twice_first address (addresses puts) it))
  one_item_each instance number (put.Tag name ∷ puts) distinct address v w p q one two =
      elim (of_list told (tag name) (put_facts instance (suc number) puts) (item address v p) one) [
        | inl here ↦ absurd (cc)
        | inr later ↦ elim (of_list told (tag name) (put_facts instance (suc number) puts) (item address w q) two) [
          | inl here ↦ absurd (cc)
          | inr too ↦ one_item_each instance (suc number) puts distinct address v w p q later too
        ]
      ]

  -- puts do not state that an instance is done
  pub no_done : (instance : Inst) (number : ℕ) (puts : List Put) (other : Inst) → among (put_facts instance number puts) (done other) ≡ true → ⊥
  no_done instance number [] other holds = false≢true holds
  no_done instance number (put.Item a w ∷ puts) other holds =
      elim (of_list told (item a w (By instance number)) (put_facts instance (suc number) puts) (done other) holds) [
        | inl here ↦ absurd (cc)
        | inr later ↦ no_done instance (suc number) puts other later
      ]
  no_done instance number (put.Tag name ∷ puts) other holds =
      elim (of_list told (tag name) (put_facts instance (suc number) puts) (done other) holds) [
        | inl here ↦ absurd (cc)
        | inr later ↦ no_done instance (suc number) puts other later
      ]
