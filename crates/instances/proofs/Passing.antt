-- What is left of a walk over places, as one asks for greater and greater ones.
use Rattle.std.proofs.Common.{◌≡◌, ◌∙◌, ap, sym, T, cond, List, ◌∷◌, Option, Some, None}
use Rattle.std.specs.Bool.{⊤}
use Rattle.std.specs.declared.cmp.Ordering.TheVariants.{Less, Equal, Greater}
use Rattle.std.specs.Ordering.{is_eq, ordering_reverse}
use Rattle.std.specs.Cmp.{tied_back}
use Rattle.std.specs.FinMap.{find, is_sorted}
use Rattle.std.specs.FinMap.Entries.{below_all}
use Rattle.std.specs.Iterator.{YieldsFirst}
use Rattle.maps.specs.Numbered.{Place, place_cmp}
use Rattle.maps.specs.PlaceOrder.{places_total}
use Rattle.instances.specs.Ended.{IsPassed, with_next}
use Rattle.instances.proofs.Below.{first, second, none_before}

abbrev Left : Type 0
Left = List (Place × ⊤)

-- the next entry and the others are all that was left before
pub with_all : (old new : Left) (next : Option (Place × ⊤)) → YieldsFirst (λ w. w) old next new → with_next next new ≡ old
with_all old new None step = sym step.0
with_all old new (Some entry) step = sym step

-- the next entry is not the one that is asked for, but comes before it
pub goes_past : (all left : Left) (entry : Place × ⊤) (place : Place) → place_cmp entry.0 place ≡ Less
    → (find place_cmp place (entry ∷ left) ≡ find place_cmp place all) × IsPassed all (entry ∷ left) place → (find place_cmp place left ≡ find place_cmp place all) × IsPassed all left place
goes_past all left entry place before was = (
  sym (other place before) ∙ was.0,
  record {
    rises = second (below_all place_cmp entry.0 left) _ was.1.rises;
    later = λ q after. sym (other q (places_total.trans entry.0 place q before after)) ∙ was.1.later q after;
  },
)
  where
    other : (q : Place) → place_cmp entry.0 q ≡ Less → find place_cmp q (entry ∷ left) ≡ find place_cmp q left
    other q lower = ap (λ r. cond (is_eq r) (Some entry.1) (find place_cmp q left)) (places_total.antisymm q entry.0 ∙ ap ordering_reverse lower)

-- it is the one that is asked for
pub is_there : (left : Left) (entry : Place × ⊤) (place : Place) → place_cmp entry.0 place ≡ Equal → find place_cmp place (entry ∷ left) ≡ Some entry.1
is_there left entry place same = ap (λ r. cond (is_eq r) (Some entry.1) (find place_cmp place left)) (tied_back places_total entry.0 place same)

-- it comes after the one that is asked for
pub is_not_there : (left : Left) (entry : Place × ⊤) (place : Place) → place_cmp entry.0 place ≡ Greater → T (is_sorted place_cmp (entry ∷ left)) → find place_cmp place (entry ∷ left) ≡ None
is_not_there left entry place after rises =
    let lower : place_cmp place entry.0 ≡ Less = places_total.antisymm place entry.0 ∙ ap ordering_reverse after in
    ap (λ r. cond (is_eq r) (Some entry.1) (find place_cmp place left)) lower ∙ none_before places_total place entry.0 left lower (first _ (is_sorted place_cmp left) rises)
