use Rattle.std.proofs.Common.{◌≡◌, ◌-◌, ◌++◌, ℕ, ℤ, List, length, drop, replicate, ap, ◌∙◌}
use Rattle.std.proofs.lemmas.List.{drop-replicate}
use Rattle.steptree.specs.declared.slot.TheConstants.{MOST_NAMES}
use Rattle.steplang.proofs.value.variables_of.Goals as goal

-- the components in front, and after them what is left of `places` equal values
filled : (front components key : List ℤ) (places : ℕ) (value : ℤ) → front ≡ components → components ≡ key
    → front ++ drop (length components) (replicate places value) ≡ key ++ replicate (places - length key) value
filled front components key places value copied is =
    ap (λ (l : List ℤ). l ++ drop (length components) (replicate places value)) (copied ∙ is)
    ∙ ap (λ (l : List ℤ). key ++ drop (length l) (replicate places value)) is
    ∙ ap (λ (l : List ℤ). key ++ l) (drop-replicate (length key) places value)

pub returns : goal.returns
returns c = filled _ _ _ MOST_NAMES _ c.copy_from_slice.ensures.after c.components-components.ensures.components
