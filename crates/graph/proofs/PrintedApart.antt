-- Lists in which no two elements clash, and what is found in them.
use Rattle.std.proofs.Common.{◌≡◌, ◌≢◌, ℕ, suc, ◌<◌, ◌≤◌, Bool, true, false, ◌||◌, ◌&&◌, List, [], ◌∷◌, ◌++◌, length, get_or, map, None, refl, ap, ◌∙◌, arith, take, zero}
use Rattle.std.proofs.lemmas.List.Folds.{list_any-append}
use Rattle.std.specs.Prelude.{⊤}
use Rattle.std.specs.List.{AllByRecursion, flat_map, list_any, zip}
use Rattle.steptree.specs.Names.{Text, is_text, place_of}
use Rattle.graph.specs.Canonical.{marked}
use Rattle.graph.proofs.PrintedTokens.{AreDistinct, distinct_rest, other_text}
use Rattle.graph.proofs.Texts.{itself, same_both_ways}
use Rattle.graph.proofs.Lists.{each_weaker, each_of_both}

-- ---- what holds of each

pub take_each : (P : Text → Type 0) (count : ℕ) (texts : List Text) → AllByRecursion P texts → AllByRecursion P (take count texts)
take_each P zero texts all = tt
take_each P (suc count) [] all = tt
take_each P (suc count) (text ∷ texts) all = (all.0, take_each P count texts all.1)

-- ---- what some element passes

pub any_none : {X : Type 0} (test : X → Bool) (xs : List X) → AllByRecursion (λ x. test x ≡ false) xs → list_any test xs ≡ false
any_none test [] all = refl
any_none test (x ∷ xs) all = grind (arith, all.0, any_none test xs all.1)

pub any_mapped : {X Y : Type 0} (test : Y → Bool) (f : X → Y) (xs : List X) → list_any test (map f xs) ≡ list_any (λ x. test (f x)) xs
any_mapped test f [] = refl
any_mapped test f (x ∷ xs) = ap (λ (b : Bool). test (f x) || b) (any_mapped test f xs)

pub any_flat : {X Y : Type 0} (test : Y → Bool) (f : X → List Y) (xs : List X) → list_any test (flat_map f xs) ≡ list_any (λ x. list_any test (f x)) xs
any_flat test f [] = refl
any_flat test f (x ∷ xs) = list_any-append test (f x) (flat_map f xs) ∙ ap (λ (b : Bool). list_any test (f x) || b) (any_flat test f xs)

pub any_and : {X : Type 0} (test : X → Bool) (b : Bool) (xs : List X) → list_any (λ x. test x && b) xs ≡ (list_any test xs && b)
any_and test b [] = refl
any_and test b (x ∷ xs) = grind (arith, any_and test b xs)

-- ---- lists in which no two elements clash

module _ {X : Type 0} (clash : X → X → Bool) where
  -- no later one clashes with an earlier one
  abbrev pub Apart : List X → Type 0
  Apart [] = ⊤
  Apart (x ∷ xs) = AllByRecursion (λ y. clash y x ≡ false) xs × Apart xs

  -- no element of the second list clashes with one of the first
  abbrev pub Clear : List X → List X → Type 0
  Clear xs ys = AllByRecursion (λ y. AllByRecursion (λ x. clash y x ≡ false) xs) ys

  pub apart_both : (xs ys : List X) → Apart xs → Apart ys → Clear xs ys → Apart (xs ++ ys)
  apart_both [] ys one two clear = two
  apart_both (x ∷ xs) ys one two clear = (
    each_of_both (λ y. clash y x ≡ false) xs ys one.0 (each_weaker (λ y. AllByRecursion (λ z. clash y z ≡ false) (x ∷ xs)) (λ y. clash y x ≡ false) (λ y h. h.0) ys clear),
    apart_both xs ys one.1 two (each_weaker (λ y. AllByRecursion (λ z. clash y z ≡ false) (x ∷ xs)) (λ y. AllByRecursion (λ z. clash y z ≡ false) xs) (λ y h. h.1) ys clear),
  )

  pub clear_of_both : (xs ys behind : List X) → Clear xs behind → Clear ys behind → Clear (xs ++ ys) behind
  clear_of_both xs ys [] one two = tt
  clear_of_both xs ys (z ∷ behind) one two = (each_of_both (λ x. clash z x ≡ false) xs ys one.0 two.0, clear_of_both xs ys behind one.1 two.1)

-- ---- texts

pub flipped : (one two : Text) → is_text one two ≡ false → is_text two one ≡ false
flipped one two h = same_both_ways two one ∙ h

all_other : (first : Text) (rest : List Text) → ((slot : ℕ) → slot < length rest → get_or rest slot [] ≢ first) → AllByRecursion (λ (text : Text). is_text text first ≡ false) rest
all_other first [] differ = tt
all_other first (text ∷ rest) differ = (other_text text first (differ 0 (omega arith)), all_other first rest (λ slot within. differ (suc slot) (omega arith)))

pub apart : (names : List Text) → AreDistinct names → Apart is_text names
apart [] distinct = tt
apart (first ∷ rest) distinct =
    (all_other first rest (λ slot within same. let it : suc slot ≡ 0 = distinct (suc slot) 0 (omega arith) (omega arith) same in omega arith), apart rest (distinct_rest first rest distinct))

pub nowhere : (names : List Text) (text : Text) → AllByRecursion (λ name. is_text text name ≡ false) names → place_of names text ≡ None
nowhere [] text all = refl
nowhere (first ∷ rest) text all = grind (arith, flipped text first all.0, nowhere rest text all.1)

-- ---- marks

pub each_marked : (P : Text → Type 0) (names : List Text) (marks : List Bool) → AllByRecursion P names → AllByRecursion P (marked (zip names marks))
each_marked P [] marks all = tt
each_marked P (first ∷ names) [] all = tt
each_marked P (first ∷ names) (true ∷ marks) all = (all.0, each_marked P names marks all.1)
each_marked P (first ∷ names) (false ∷ marks) all = each_marked P names marks all.1

pub marked_apart : (names : List Text) (marks : List Bool) → Apart is_text names → Apart is_text (marked (zip names marks))
marked_apart [] marks all = tt
marked_apart (first ∷ names) [] all = tt
marked_apart (first ∷ names) (true ∷ marks) all = (each_marked (λ (text : Text). is_text text first ≡ false) names marks all.0, marked_apart names marks all.1)
marked_apart (first ∷ names) (false ∷ marks) all = marked_apart names marks all.1

pub fewer_marked : (names : List Text) (marks : List Bool) → length (marked (zip names marks)) ≤ length names
fewer_marked [] marks = omega arith
fewer_marked (first ∷ names) [] = omega arith
fewer_marked (first ∷ names) (mark ∷ marks) = grind (arith, fewer_marked names marks)

abbrev pub is_among : List Text → Text → Bool
is_among texts text = list_any (λ other. is_text other text) texts

among_behind : (first : Text) (those names : List Text) → AllByRecursion (λ text. is_text text first ≡ false) names → map (is_among (first ∷ those)) names ≡ map (is_among those) names
among_behind first those [] all = refl
among_behind first those (text ∷ names) all = grind (arith, flipped text first all.0, among_behind first those names all.1)

-- the marks follow from the names that are marked
pub marks_back : (names : List Text) (marks : List Bool) → Apart is_text names → length marks ≡ length names → map (is_among (marked (zip names marks))) names ≡ marks
marks_back [] [] all many = refl
marks_back [] (mark ∷ marks) all many = absurd (omega (arith, many))
marks_back (first ∷ names) [] all many = absurd (omega (arith, many))
marks_back (first ∷ names) (true ∷ marks) all many = grind (arith, itself first, among_behind first (marked (zip names marks)) names all.0, marks_back names marks all.1 (omega (arith, many)))
marks_back (first ∷ names) (false ∷ marks) all many =
    grind (arith, any_none (λ (other : Text). is_text other first) (marked (zip names marks)) (each_marked (λ (text : Text). is_text text first ≡ false) names marks all.0), marks_back names marks all.1 (omega (arith, many)))
