-- The place of a text among names, found one name after another.
use Rattle.std.proofs.Common.{◌≡◌, ◌<◌, ℕ, zero, suc, ◌+◌, Bool, true, false, List, length, map, drop, get_or, Some, None, Option, if◌then◌else◌, refl, sym, ap, ◌∙◌, arith}
use Rattle.std.specs.Prelude.{option_map}
use Rattle.steptree.specs.Names.{Text, is_text, place_of}
use Rattle.steptree.proofs.Lists.{opened, past}

-- `count` places further on
abbrev pub further : ℕ → Option ℕ → Option ℕ
further count place = option_map (λ k. count + k) place

further_none : (place : Option ℕ) → further 0 place ≡ place
further_none None = refl
further_none (Some k) = ap (λ (n : ℕ). Some n) (omega arith)

further_one : (count : ℕ) (place : Option ℕ) → further count (option_map suc place) ≡ further (count + 1) place
further_one count None = refl
further_one count (Some k) =
    let e : count + suc k ≡ count + 1 + k = omega arith in
    ap (λ (n : ℕ). Some n) e

module _ {X : Type 0} (name : X → Text) (text : Text) where
  -- the place of the text is its place among the names that are left
  abbrev pub Left : List X → ℕ → Type 0
  Left xs index = place_of (map name xs) text ≡ further index (place_of (map name (drop index xs)) text)

  pub at_first : (xs : List X) → Left xs 0
  at_first xs = sym (further_none (place_of (map name xs) text))

  found : (xs : List X) (index : ℕ) (this : X) (same : Bool) → index < length xs → this ≡ get_or xs index this → is_text (name this) text ≡ same
      → place_of (map name (drop index xs)) text ≡ (if same then Some zero else option_map suc (place_of (map name (drop (index + 1) xs)) text))
  found xs index this same within is tells =
      ap (λ (l : List X). place_of (map name l) text) (opened xs index this within is)
      ∙ ap (λ (b : Bool). if b then Some zero else option_map suc (place_of (map name (drop (index + 1) xs)) text)) tells

  -- another name stands here
  pub another : (xs : List X) (index : ℕ) (this : X) → index < length xs → this ≡ get_or xs index this → is_text (name this) text ≡ false → Left xs index → Left xs (index + 1)
  another xs index this within is tells left =
      left ∙ ap (further index) (found xs index this false within is tells) ∙ further_one index (place_of (map name (drop (index + 1) xs)) text)

  -- it stands here
  pub here : (xs : List X) (index : ℕ) (this : X) → index < length xs → this ≡ get_or xs index this → is_text (name this) text ≡ true → Left xs index → place_of (map name xs) text ≡ Some index
  here xs index this within is tells left =
      let sum : index + 0 ≡ index = omega arith in
      left ∙ ap (further index) (found xs index this true within is tells) ∙ ap (λ (n : ℕ). Some n) sum

  -- none is left
  pub nowhere : (xs : List X) (index : ℕ) → index ≡ length xs → Left xs index → place_of (map name xs) text ≡ None
  nowhere xs index all left = left ∙ ap (λ (l : List X). further index (place_of (map name l) text)) (past xs index all)
