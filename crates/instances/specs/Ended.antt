-- What is left of a walk over places, as one asks for greater and greater ones.
use Rattle.std.specs.Prelude.{◌≡◌, ⊤, T, List, [], ◌∷◌, Option, Some, None}
use Rattle.std.specs.declared.cmp.Ordering.TheVariants.{Less}
use Rattle.std.specs.FinMap.{find, is_sorted}
use Rattle.maps.specs.Numbered.{Place, place_cmp}

-- the next entry, if there is one, and the others
abbrev pub with_next : Option (Place × ⊤) → List (Place × ⊤) → List (Place × ⊤)
with_next None others = []
with_next (Some entry) others = entry ∷ others

-- of the places that come after this one, all that were left are left still
pub record IsPassed (old new : List (Place × ⊤)) (place : Place) : Type 0 where
  pub rises : T (is_sorted place_cmp new)
  pub later : (other : Place) → place_cmp place other ≡ Less → find place_cmp other new ≡ find place_cmp other old
