use Rattle.std.proofs.Common.{List, subst}
use Rattle.instances.specs.declared.step.Step.{Step}
use Rattle.instances.specs.Known.{Known}
use Rattle.instances.specs.MarkedDone.{AreDoneMarks, NoneIsMarked}
use Rattle.instances.proofs.DoneLeft.{left_done, none_marked}
use Rattle.instances.proofs.instances.Instances.done_marks.Goals as goal

pub invariant_of-result : goal.invariant_of-result
invariant_of-result c =
    let known : Known = record { tags = c.self.inside.tags; steps = c.self.inside.steps.items } in
    left_done known c.in-Ok.maps.items c.of_maps.result c.of_maps.ensures (subst (λ (steps : List Step). AreDoneMarks steps c.in-Ok.maps.items) c.deref.ensures.value c.in-Ok.ensures)

pub returns-in-Ok : goal.returns-in-Ok
returns-in-Ok c =
    let known : Known = record { tags = c.self.inside.tags; steps = c.self.inside.steps.items } in
    subst (λ (now : Known). NoneIsMarked now c.of_maps.result) c.self.view_is
    (none_marked known c.in-Ok.maps.items c.of_maps.result c.of_maps.ensures (subst (λ (steps : List Step). AreDoneMarks steps c.in-Ok.maps.items) c.deref.ensures.value c.in-Ok.ensures))
