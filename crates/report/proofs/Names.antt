-- Names that are found by a number.
use Rattle.std.proofs.Common.{◌≡◌, ◌∙◌, ℕ, Bor, Option, Some, None, List, [], get_or, ap, slice_get}
use Rattle.std.specs.Option.{option_map, unwrap_or}
use Rattle.std.proofs.lemmas.Option.{unwrap_or-slice_get}
use Rattle.steptree.specs.Names.{Text}

-- the name that is found, or the empty name if there is none
pub told_name : (told : Option (Bor Text)) (none : Bor Text) (names : List Text) (number : ℕ) → none.now ≡ [] → option_map (λ name. name.now) told ≡ slice_get names number
    → (unwrap_or told none).now ≡ get_or names number []
told_name None none names number empty is = empty ∙ ap (λ (o : Option Text). unwrap_or o []) is ∙ unwrap_or-slice_get names number []
told_name (Some name) none names number empty is = ap (λ (o : Option Text). unwrap_or o []) is ∙ unwrap_or-slice_get names number []
