use Rattle.std.proofs.Common.{◌≤◌, ◌^◌, sym, subst, Bool, List, length, map}
use Rattle.maps.specs.Numbered.{Numbered}
use Rattle.instances.specs.Known.{ArePrescribed, fresh_step}
use Rattle.instances.specs.declared.step.Step.{Step}
use Rattle.instances.proofs.Growing.{fresh_prescribed}
use Rattle.instances.proofs.instances.Instances.new.Goals as goal

pub invariant_of-result : goal.invariant_of-result
invariant_of-result c =
    subst (λ (steps : List Step). (length steps ≤ 2 ^ 16) × ArePrescribed c.in_ok-tags.tags steps) (sym c.in_ok-steps.ensures)
    (subst (λ (tags : Numbered Bool). (length (map fresh_step c.args.prescribers.now) ≤ 2 ^ 16) × ArePrescribed tags (map fresh_step c.args.prescribers.now)) (sym c.in_ok-tags.ensures) (fresh_prescribed c.args.tags c.args.prescribers.now c.requires.steps))
