-- Sorted lists that have the same members are equal.
use Rattle.std.proofs.Common.{◌≡◌, ◌↔◌, ◌⊎◌, Bool, true, false, ◌||◌, List, [], ◌∷◌, inl, inr, refl, sym, ap, subst, ◌∙◌}
use Rattle.std.proofs.lemmas.Bool.{false≢true}
use Rattle.std.proofs.lemmas.Cmp.{tied_itself}
use Rattle.std.proofs.lemmas.Map.Keys.{sorted_head, sorted_tail}
use Rattle.std.specs.Cmp.{IsTotalOrder}
use Rattle.std.specs.List.{AllByRecursion, list_any}
use Rattle.std.specs.List.Sorted.{IsStrictlySortedBy}
use Rattle.std.specs.Ordering.{ordering_reverse}
use Rattle.std.specs.declared.cmp.Ordering.{Ordering}
use Rattle.std.specs.declared.cmp.Ordering.TheVariants.{Less, Equal, Greater}

-- a test says which values are members: it holds of each value and itself, and of equal values alone
module _ {N : Type 0} (cmp : N → N → Ordering) (total : IsTotalOrder cmp) (is_one : N → N → Bool) (itself : (n : N) → is_one n n ≡ true) (same : (m n : N) → is_one m n ≡ true → m ≡ n) where
  abbrev Has : N → List N → Type 0
  Has n list = list_any (is_one n) list ≡ true

  has_first : (n : N) (rest : List N) → Has n (n ∷ rest)
  has_first n rest = ap (λ (b : Bool). b || list_any (is_one n) rest) (itself n)

  -- a member is the first, or one of the rest
  which : (n first : N) (rest : List N) → Has n (first ∷ rest) → (n ≡ first) ⊎ Has n rest
  which n first rest has = by (is_one n first) refl
    where
      by : (b : Bool) → is_one n first ≡ b → (n ≡ first) ⊎ Has n rest
      by true is = inl (same n first is)
      by false other = inr (subst (λ (b : Bool). (b || list_any (is_one n) rest) ≡ true) other has)

  in_rest : (n first : N) (rest : List N) → Has n rest → Has n (first ∷ rest)
  in_rest n first rest has = by (is_one n first) refl
    where
      by : (b : Bool) → is_one n first ≡ b → Has n (first ∷ rest)
      by true is = ap (λ (b : Bool). b || list_any (is_one n) rest) is
      by false other = ap (λ (b : Bool). b || list_any (is_one n) rest) other ∙ has

  -- what is below all of them is below each
  below_each : (low n : N) (list : List N) → AllByRecursion (λ (one : N). cmp low one ≡ Less) list → Has n list → cmp low n ≡ Less
  below_each low n [] below has = absurd (false≢true has)
  below_each low n (first ∷ rest) below has = by (below_each low n rest below.1) (which n first rest has)
    where
      by : (Has n rest → cmp low n ≡ Less) → (n ≡ first) ⊎ Has n rest → cmp low n ≡ Less
      by behind (inl is) = subst (λ (m : N). cmp low m ≡ Less) (sym is) below.0
      by behind (inr later) = behind later

  never_itself : (n : N) → cmp n n ≡ Less → ⊥
  never_itself n less = let clash : Less ≡ Equal = sym less ∙ tied_itself total n in absurd (cc)

  never_both : (m n : N) → cmp m n ≡ Less → cmp n m ≡ Less → ⊥
  never_both m n less back = let clash : Less ≡ Greater = sym less ∙ total.antisymm m n ∙ ap ordering_reverse back in absurd (cc)

  -- the first of a sorted list is not in the rest
  not_again : (first n : N) (rest : List N) → IsStrictlySortedBy cmp (first ∷ rest) → Has n rest → n ≡ first → ⊥
  not_again first n rest sorted has is =
      never_itself first (subst (λ (m : N). cmp first m ≡ Less) is (below_each first n rest (sorted_head cmp first rest sorted) has))

  same_first : (m n : N) (ms ns : List N) → IsStrictlySortedBy cmp (m ∷ ms) → IsStrictlySortedBy cmp (n ∷ ns) → Has m (n ∷ ns) → Has n (m ∷ ms) → m ≡ n
  same_first m n ms ns rises also has back = by (which m n ns has) (which n m ms back)
    where
      by : (m ≡ n) ⊎ Has m ns → (n ≡ m) ⊎ Has n ms → m ≡ n
      by (inl is) other = is
      by (inr later) (inl is) = sym is
      by (inr later) (inr early) =
          absurd (never_both m n (below_each m n ms (sorted_head cmp m ms rises) early) (below_each n m ns (sorted_head cmp n ns also) later))

  -- members of one rest are members of the other
  rest_has : (m n one : N) (ms ns : List N) → IsStrictlySortedBy cmp (m ∷ ms) → m ≡ n → (Has one (m ∷ ms) → Has one (n ∷ ns)) → Has one ms → Has one ns
  rest_has m n one ms ns rises is goes has = by (which one n ns (goes (in_rest one m ms has)))
    where
      by : (one ≡ n) ⊎ Has one ns → Has one ns
      by (inl first) = absurd (not_again m one ms rises has (first ∙ sym is))
      by (inr later) = later

  pub same_members : (one two : List N) → IsStrictlySortedBy cmp one → IsStrictlySortedBy cmp two → ((n : N) → Has n one ↔ Has n two) → one ≡ two
  same_members [] [] rises also members = refl
  same_members [] (n ∷ ns) rises also members = absurd (false≢true ((members n).1 (has_first n ns)))
  same_members (m ∷ ms) [] rises also members = absurd (false≢true ((members m).0 (has_first m ms)))
  same_members (m ∷ ms) (n ∷ ns) rises also members =
      let first : m ≡ n = same_first m n ms ns rises also ((members m).0 (has_first m ms)) ((members n).1 (has_first n ns)) in
      let rest : ms ≡ ns =
      same_members ms ns (sorted_tail cmp m ms rises) (sorted_tail cmp n ns also)
      (λ one. (rest_has m n one ms ns rises first (members one).0, rest_has n m one ns ms also (sym first) (members one).1)) in
      λ i. first i ∷ rest i
