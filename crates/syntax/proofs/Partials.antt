-- What the parser keeps of an expression.
use Rattle.std.proofs.Common.{◌≡◌, ℕ, ◌≤◌, ◌<◌, true, false, List, [], ◌∷◌, ◌++◌, length, reverse, refl, ap, ◌∙◌, arith, if◌then◌else◌, nat_lt, rules, Vec, Global}
use Rattle.std.proofs.lemmas.List.{reverse-append, length-reverse}
use Rattle.syntax.specs.declared.limits.TheConstants.{MOST_BRACKETS}
use Rattle.syntax.specs.declared.level.Level.{Level as Kept_level}
use Rattle.syntax.specs.declared.partial.Partial.{Partial}
use Rattle.syntax.specs.Grammar.{Position}
use Rattle.syntax.specs.declared.limits.TheConstants.{MOST_NAME_BYTES}
use Rattle.syntax.specs.Limits.{one_more, name_limits}
use Rattle.syntax.specs.Tree.{AreAll}
use Rattle.syntax.specs.Expected.{Level, Expression, opened, possible, bracketing, passing}
use Rattle.syntax.specs.Partial.{IsLevel, IsPartial}

pub as_many : {X Y : Type 0} (Is : X → Y → Type 0) (xs : List X) (ys : List Y) → AreAll Is xs ys → length xs ≡ length ys
as_many Is [] ys are = grind arith
as_many Is (x ∷ xs) ys are = grind (arith, as_many Is xs)

empty : {X : Type 0} (xs : List X) → length xs ≡ 0 → xs ≡ []
empty [] e = refl
empty (x ∷ xs) e = absurd (omega (arith, e))

-- as many brackets are open as levels are kept
pub as_many_open : (state : Expression) (kept : Partial) → IsPartial state kept → length state.outer ≡ length kept.outer.items
as_many_open state kept is = as_many _ _ _ is.outer ∙ length-reverse kept.outer.items

pub few_more : (most before : ℕ) (place : Position) → before < most → one_more most before place ≡ []
few_more most before place few = let less : nat_lt before most ≡ true = search rules in ap (λ b. if b then [] else place ∷ []) less

pub too_many_more : (most before : ℕ) (place : Position) → most ≤ before → one_more most before place ≡ place ∷ []
too_many_more most before place many = let not_less : nat_lt before most ≡ false = search rules in ap (λ b. if b then [] else place ∷ []) not_less

-- no limit is passed here
pub not_passed : (state : Expression) (kept : Partial) (places : List Position) → places ≡ [] → IsPartial state kept → IsPartial (passing state places) kept
not_passed state kept places none is = grind arith

pub bracket_opened : (state : Expression) (kept new : Partial) (place : Position) → IsPartial (passing state (one_more MOST_BRACKETS (length state.outer) place)) kept
    → new.first ≡ kept.first → new.passed ≡ kept.passed → IsLevel (opened possible) new.level → new.outer.items ≡ kept.outer.items ++ kept.level ∷ [] → IsPartial (bracketing state place) new
bracket_opened state kept new place is first passed level outer = grind (arith, reverse-append)

pub long_name : (text : List ℕ) (place : Position) → MOST_NAME_BYTES < length text → name_limits (text, place) ≡ place ∷ []
long_name text place long = let more : nat_lt MOST_NAME_BYTES (length text) ≡ true = search rules in ap (λ b. if b then place ∷ [] else []) more

pub none_open : (state : Expression) (kept : Partial) → IsPartial state kept → length kept.outer.items ≡ 0 → state.outer ≡ []
none_open state kept is none = empty state.outer (as_many_open state kept is ∙ none)

-- the level around the innermost one
pub record Outside (state : Expression) (kept : Partial) (rest : List Kept_level) (around : Kept_level) : Type 0 where
  pub level : Level
  pub place : Position
  pub outer : List (Level × Position)
  pub is : state.outer ≡ (level, place) ∷ outer
  pub outside : IsLevel level around
  pub others : AreAll (λ (one : Level × Position). IsLevel one.0) outer (reverse rest)

split : (state : Expression) (kept : Partial) (rest : List Kept_level) (around : Kept_level) (outers : List (Level × Position)) → state.outer ≡ outers
    → AreAll (λ (one : Level × Position). IsLevel one.0) outers (around ∷ reverse rest) → Outside state kept rest around
split state kept rest around [] e are = absurd are
split state kept rest around (one ∷ outer) e are = record { level = one.0; place = one.1; outer = outer; is = e; outside = are.0; others = are.1 }

pub popped : (state : Expression) (kept : Partial) (rest : List Kept_level) (around : Kept_level) → kept.outer.items ≡ rest ++ around ∷ [] → IsPartial state kept → Outside state kept rest around
popped state kept rest around items is = grind (arith, reverse-append, split)

-- the same levels in another vector
pub still : (state : Expression) (kept : Partial) (outer : Vec Kept_level Global) → outer.items ≡ kept.outer.items → IsPartial state kept → IsPartial state (record kept { outer = outer })
still state kept outer same is = grind arith
