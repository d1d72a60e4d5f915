-- Collections in the order of their names, where each number occurs once.
use Rattle.std.proofs.Common.{◌≡◌, ◌≢◌, ◌∙◌, ◌==◌, ◌+◌, ◌<◌, ◌≤◌, ℕ, zero, suc, Bool, true, false, ◌||◌, Some, List, [], ◌∷◌, ◌++◌, map, length, get_or, take, refl, sym, ap, subst, arith, true≢false, eq-eqb, eqb-true, lt-ltb, nat_lt}
use Rattle.std.specs.List.{AllByRecursion, list_any}
use Rattle.std.specs.List.Sorted.{IsSortedBy, IsStrictlySortedBy, IsPermutation}
use Rattle.std.specs.Ordering.{nat_cmp, is_eq, ordering_reverse}
use Rattle.std.specs.Cmp.Lexicographic.{slice_cmp, nat_list_cmp_total, texts_ties, same_text}
use Rattle.std.specs.declared.cmp.Ordering.{Ordering}
use Rattle.std.specs.declared.cmp.Ordering.TheVariants.{Less, Equal, Greater}
use Rattle.std.proofs.lemmas.List.{take_all}
use Rattle.std.proofs.lemmas.List.Elements.{recursion_from_All, All-push}
use Rattle.std.proofs.lemmas.List.Sorted.{All-permutation, sum_by-IsPermutation}
use Rattle.std.proofs.lemmas.List.Sums.{sum_by-append, sum_by-cons}
use Rattle.terms.specs.declared.name.ItemCollection.{ItemCollection}
use Rattle.steptree.specs.Names.{Text, place_of, names_in}
use Rattle.graph.specs.Graph.{Graph, IsGraph}
use Rattle.report.specs.Got.{Named, IsNamed, AreGotBelow, how_many, times}
use Rattle.report.specs.ReportText.{AreGot, name_cmp}

-- ---- one more collection

-- one more mark is taken
taken_here : (marks : List Bool) (below : ℕ) → get_or (take (suc below) marks) below false ≡ get_or marks below false
taken_here [] zero = refl
taken_here [] (suc below) = refl
taken_here (mark ∷ marks) zero = refl
taken_here (mark ∷ marks) (suc below) = taken_here marks below

taken_elsewhere : (marks : List Bool) (below number : ℕ) → number ≢ below → get_or (take (suc below) marks) number false ≡ get_or (take below marks) number false
taken_elsewhere [] zero number other = refl
taken_elsewhere [] (suc below) number other = refl
taken_elsewhere (mark ∷ marks) zero zero other = absurd (other refl)
taken_elsewhere (mark ∷ marks) zero (suc number) other = refl
taken_elsewhere (mark ∷ marks) (suc below) zero other = refl
taken_elsewhere (mark ∷ marks) (suc below) (suc number) other = taken_elsewhere marks below number (λ e. other (ap suc e))

-- past the marks that are taken there is none
none_taken : (marks : List Bool) (below : ℕ) → get_or (take below marks) below false ≡ false
none_taken [] zero = refl
none_taken [] (suc below) = refl
none_taken (mark ∷ marks) zero = refl
none_taken (mark ∷ marks) (suc below) = none_taken marks below

taken_next : (marks : List Bool) (below : ℕ) → take (suc below) marks ≡ take (below + 1) marks
taken_next marks below = let e : suc below ≡ below + 1 = omega arith in ap (λ (n : ℕ). take n marks) e

here : (marks : List Bool) (below number : ℕ) → (number == below) ≡ true → get_or (take (below + 1) marks) number false ≡ get_or marks below false
here marks below number same =
    ap (λ (n : ℕ). get_or (take (below + 1) marks) n false) (eqb-true number below same) ∙ ap (λ (l : List Bool). get_or l below false) (sym (taken_next marks below)) ∙ taken_here marks below

here_before : (marks : List Bool) (below number : ℕ) → (number == below) ≡ true → get_or (take below marks) number false ≡ false
here_before marks below number same = ap (λ (n : ℕ). get_or (take below marks) n false) (eqb-true number below same) ∙ none_taken marks below

elsewhere : (marks : List Bool) (below number : ℕ) → (number == below) ≡ false → get_or (take (below + 1) marks) number false ≡ get_or (take below marks) number false
elsewhere marks below number other =
    ap (λ (l : List Bool). get_or l number false) (sym (taken_next marks below)) ∙ taken_elsewhere marks below number (λ e. true≢false (sym (eq-eqb number below e) ∙ other))

-- a collection of which the environment may get no items is passed over
pub passed : (g : Graph) (below : ℕ) (list : List Named) → AreGotBelow g below list → get_or g.environment_gets below false ≡ false → AreGotBelow g (below + 1) list
passed g below list are none = record { named = are.named; once = λ number. are.once number ∙ ap how_many (sym (by number (number == below) refl)) }
  where
    by : (number : ℕ) (same : Bool) → (number == below) ≡ same → get_or (take (below + 1) g.environment_gets) number false ≡ get_or (take below g.environment_gets) number false
    by number true same = here g.environment_gets below number same ∙ none ∙ sym (here_before g.environment_gets below number same)
    by number false other = elsewhere g.environment_gets below number other

-- one of which it may get them is added
pub added : (g : Graph) (below : ℕ) (list : List Named) (one : Named) → AreGotBelow g below list → IsNamed g one → one.1.0 ≡ below → get_or g.environment_gets below false ≡ true → AreGotBelow g (below + 1) (list ++ one ∷ [])
added g below list one are named at may = record {
  named = All-push (IsNamed g) list one are.named named;
  once = λ number. sum_by-append (λ (other : Named). how_many (number == other.1.0)) list (one ∷ []) ∙ by number (number == below) refl;
}
  where
    this : (number : ℕ) (same : Bool) → (number == below) ≡ same → how_many (number == one.1.0) ≡ how_many same
    this number same is = ap how_many (ap (λ (n : ℕ). number == n) at ∙ is)

    by : (number : ℕ) (same : Bool) → (number == below) ≡ same → times number list + times number (one ∷ []) ≡ how_many (get_or (take (below + 1) g.environment_gets) number false)
    by number true same =
        let before : times number list ≡ 0 = are.once number ∙ ap how_many (here_before g.environment_gets below number same) in
        let one_here : how_many (number == one.1.0) ≡ 1 = this number true same in
        let after : how_many (get_or (take (below + 1) g.environment_gets) number false) ≡ 1 = ap how_many (here g.environment_gets below number same ∙ may) in
        omega arith
    by number false other =
        let before : times number list ≡ how_many (get_or (take below g.environment_gets) number false) = are.once number in
        let none_here : how_many (number == one.1.0) ≡ 0 = this number false other in
        let after : how_many (get_or (take (below + 1) g.environment_gets) number false) ≡ how_many (get_or (take below g.environment_gets) number false) = ap how_many (elsewhere g.environment_gets below number other) in
        omega arith

-- none is there before the first
pub none_yet : (g : Graph) → AreGotBelow g 0 []
none_yet g = record { named = λ k d less. absurd (omega arith); once = λ number. refl }

-- ---- in the order of the names

-- texts of which neither comes before the other are equal
one_text : (one two : Text) → slice_cmp nat_cmp one two ≡ Equal → one ≡ two
one_text one two e = same_text one two (sym (texts_ties one two ∙ ap is_eq e))

abbrev collections_of : List Named → List ItemCollection
collections_of list = map (λ one. one.1) list

inside : {m n : ℕ} → Some m ≡ Some n → m ≡ n
inside e = cc

-- collections with the same name have the same number
one_number : (g : Graph) (one two : Named) → IsNamed g one → IsNamed g two → one.0.now ≡ two.0.now → one.1.0 ≡ two.1.0
one_number g one two first second same = inside (sym first.once ∙ ap (place_of (names_in g.items)) same ∙ second.once)

times_more : (number : ℕ) (one : Named) (list : List Named) → times number (one ∷ list) ≡ how_many (number == one.1.0) + times number list
times_more number one list = sum_by-cons (λ (other : Named). how_many (number == other.1.0)) one list

-- a number that the first two have occurs twice
twice : (one two : Named) (more : List Named) → one.1.0 ≡ two.1.0 → times one.1.0 (one ∷ two ∷ more) ≤ 1 → ⊥
twice one two more same few =
    let first : how_many (one.1.0 == one.1.0) ≡ 1 = ap how_many (eq-eqb one.1.0 one.1.0 refl) in
    let second : how_many (one.1.0 == two.1.0) ≡ 1 = ap how_many (eq-eqb one.1.0 two.1.0 same) in
    omega (arith, times_more one.1.0 one (two ∷ more), times_more one.1.0 two more)

-- if a test ranks by names, the list is sorted by it, and each number occurs at most once, then the names rise
module _ (g : Graph) (lt : Named → Named → Bool) (ranks : (one two : Named) → slice_cmp nat_cmp one.0.now two.0.now ≡ Less → lt one two ≡ true) where
  less_names : (one two : Named) (more : List Named) → IsNamed g one → IsNamed g two → times one.1.0 (one ∷ two ∷ more) ≤ 1 → lt two one ≡ false
      → (order : Ordering) → slice_cmp nat_cmp one.0.now two.0.now ≡ order → slice_cmp nat_cmp one.0.now two.0.now ≡ Less
  less_names one two more first second few not_less Less is = is
  less_names one two more first second few not_less Equal is = absurd (twice one two more (one_number g one two first second (one_text one.0.now two.0.now is)) few)
  less_names one two more first second few not_less Greater is =
      absurd (true≢false (sym (ranks two one (nat_list_cmp_total.antisymm two.0.now one.0.now ∙ ap ordering_reverse is)) ∙ not_less))

  below_next : (one two : Named) (more : List Named) → IsNamed g one → IsNamed g two → times one.1.0 (one ∷ two ∷ more) ≤ 1 → lt two one ≡ false → name_cmp g one.1 two.1 ≡ Less
  below_next one two more first second few not_less =
      subst (λ (name : Text). slice_cmp nat_cmp name (get_or (names_in g.items) two.1.0 []) ≡ Less) (sym first.name)
      (subst (λ (name : Text). slice_cmp nat_cmp one.0.now name ≡ Less) (sym second.name) (less_names one two more first second few not_less (slice_cmp nat_cmp one.0.now two.0.now) refl))

  above : (one two : ItemCollection) (more : List ItemCollection) → name_cmp g one two ≡ Less → AllByRecursion (λ other. name_cmp g two other ≡ Less) more → AllByRecursion (λ other. name_cmp g one other ≡ Less) more
  above one two [] less all = tt
  above one two (next ∷ more) less all =
      (nat_list_cmp_total.trans (get_or (names_in g.items) one.0 []) (get_or (names_in g.items) two.0 []) (get_or (names_in g.items) next.0 []) less all.0, above one two more less all.1)

  behind : (one : Named) (list : List Named) → IsSortedBy lt (one ∷ list) → IsSortedBy lt list
  behind one list sorted = λ k d low high.
      let e : suc k + 1 ≡ suc (k + 1) = omega arith in
      subst (λ (n : ℕ). lt (get_or (one ∷ list) n d) (get_or list k d) ≡ false) e (sorted (suc k) d (omega arith) (omega arith))

  fewer : (one : Named) (list : List Named) → ((number : ℕ) → times number (one ∷ list) ≤ 1) → (number : ℕ) → times number list ≤ 1
  fewer one list few number = let at = few number in omega (arith, times_more number one list)

  names_rise : (list : List Named) → IsSortedBy lt list → AllByRecursion (IsNamed g) list → ((number : ℕ) → times number list ≤ 1) → IsStrictlySortedBy (name_cmp g) (collections_of list)
  unfolding IsStrictlySortedBy
  names_rise [] sorted named few = tt
  names_rise (one ∷ []) sorted named few = (tt, tt)
  names_rise (one ∷ two ∷ more) sorted named few =
      let rest = names_rise (two ∷ more) (behind one (two ∷ more) sorted) named.1 (fewer one (two ∷ more) few) in
      let less = below_next one two more named.0 named.1.0 (few one.1.0) (sorted 0 one (omega arith) (omega arith)) in
      ((less, above one.1 two.1 (collections_of more) less rest.0), rest)

-- a number is in the list exactly if it occurs more than 0 times
found : (number : ℕ) (list : List Named) → list_any (λ other. number == other.0) (collections_of list) ≡ nat_lt 0 (times number list)
found number [] = refl
found number (one ∷ list) = by (found number list) (number == one.1.0) refl
  where
    by : list_any (λ other. number == other.0) (collections_of list) ≡ nat_lt 0 (times number list) → (same : Bool) → (number == one.1.0) ≡ same
        → list_any (λ other. number == other.0) (collections_of (one ∷ list)) ≡ nat_lt 0 (times number (one ∷ list))
    by rest true same =
        let at : how_many (number == one.1.0) ≡ 1 = ap how_many same in
        let some : 0 < times number (one ∷ list) = omega (arith, times_more number one list) in
        ap (λ (b : Bool). b || list_any (λ other. number == other.0) (collections_of list)) same ∙ sym (lt-ltb 0 (times number (one ∷ list)) some)
    by rest false other =
        let at : how_many (number == one.1.0) ≡ 0 = ap how_many other in
        let same : times number list ≡ times number (one ∷ list) = omega (arith, times_more number one list) in
        ap (λ (b : Bool). b || list_any (λ other. number == other.0) (collections_of list)) other ∙ rest ∙ ap (λ (n : ℕ). nat_lt 0 n) same

few_of : (mark : Bool) → how_many mark ≤ 1
few_of true = omega arith
few_of false = omega arith

some_of : (mark : Bool) → nat_lt 0 (how_many mark) ≡ mark
some_of true = refl
some_of false = refl

-- once sorted, they are the collections of which the environment may get items, in the order of their names
pub in_order : (g : Graph) (lt : Named → Named → Bool) → ((one two : Named) → slice_cmp nat_cmp one.0.now two.0.now ≡ Less → lt one two ≡ true) → IsGraph g → (old new : List Named)
    → AreGotBelow g (length g.items) old → IsPermutation old new → IsSortedBy lt new → AreGot g (map (λ one. one.1) new)
in_order g lt ranks is old new are moved sorted = record {
  rises = names_rise g lt ranks new sorted (recursion_from_All (IsNamed g) new (All-permutation (IsNamed g) old new moved are.named)) few;
  each = λ collection. (λ there. sym (told collection.0) ∙ there, λ may. told collection.0 ∙ may);
}
  where
    counted : (number : ℕ) → times number new ≡ how_many (get_or g.environment_gets number false)
    counted number =
        sum_by-IsPermutation (λ (other : Named). how_many (number == other.1.0)) old new moved ∙ are.once number
        ∙ ap (λ (l : List Bool). how_many (get_or l number false)) (take_all (length g.items) g.environment_gets (omega (arith, is.each_get)))

    few : (number : ℕ) → times number new ≤ 1
    few number = let at = few_of (get_or g.environment_gets number false) in omega (arith, counted number)

    told : (number : ℕ) → list_any (λ other. number == other.0) (collections_of new) ≡ get_or g.environment_gets number false
    told number = found number new ∙ ap (λ (n : ℕ). nat_lt 0 n) (counted number) ∙ some_of (get_or g.environment_gets number false)
