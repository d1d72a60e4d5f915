-- Instances in the order of the names of their steps, and then of their numbers and keys.
use Rattle.std.proofs.Common.{◌≡◌, ◌∙◌, ℕ, Bor, Option, Some, None, List, [], get_or, ap, slice_get}
use Rattle.std.specs.Option.{option_map, unwrap_or}
use Rattle.std.proofs.lemmas.Option.{unwrap_or-slice_get}
use Rattle.std.specs.Cmp.{IsTotalOrder, on_total, then_total}
use Rattle.std.specs.Cmp.Lexicographic.{nat_list_cmp_total}
use Rattle.terms.specs.declared.name.Inst.{Inst}
use Rattle.terms.proofs.Numbered as numbered
use Rattle.steptree.specs.Names.{Text}
use Rattle.graph.specs.Graph.{Graph}
use Rattle.graph.specs.Prescribed.{names_of_steps}
use Rattle.session.specs.Answers.{instance_cmp}

-- the name that is found, or the empty name if there is none
pub told_name : (told : Option (Bor Text)) (none : Bor Text) (names : List Text) (number : ℕ) → none.now ≡ [] → option_map (λ name. name.now) told ≡ slice_get names number
    → (unwrap_or told none).now ≡ get_or names number []
told_name None none names number empty is = empty ∙ ap (λ (o : Option Text). unwrap_or o []) is ∙ unwrap_or-slice_get names number []
told_name (Some name) none names number empty is = ap (λ (o : Option Text). unwrap_or o []) is ∙ unwrap_or-slice_get names number []

pub instances_total : (g : Graph) → IsTotalOrder (instance_cmp g)
instances_total g = then_total (on_total (λ (a : Inst). get_or (names_of_steps g.steps) a.collection.0 []) nat_list_cmp_total) numbered.instances_total
