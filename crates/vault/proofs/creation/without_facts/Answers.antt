use Rattle.std.proofs.Common.{◌∙◌, ap, ◌++◌, ◌∷◌, [], List, ℕ}
use Rattle.vault.proofs.Created.{side_spelled, side_counted}
use Rattle.vault.proofs.creation.without_facts.Goals as goal

pub returns-clause-spelled : goal.returns-clause-spelled
returns-clause-spelled c =
    side_spelled c.args.text.now _ _ _ c.no_facts-image.ensures (c.in_ok-push.ensures.items ∙ ap (λ (l : List ℕ). l ++ 0 ∷ []) c.new-side.ensures.items) c.in_ok-spell_side.ensures.spelled

pub returns-clause-count : goal.returns-clause-count
returns-clause-count c =
    side_counted c.args.text.now _ _ _ c.no_facts-image.ensures (c.in_ok-push.ensures.items ∙ ap (λ (l : List ℕ). l ++ 0 ∷ []) c.new-side.ensures.items) c.in_ok-spell_side.ensures.spelled
