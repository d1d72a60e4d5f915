use Rattle.std.proofs.Common.{◌∙◌, subst, sym, refl}
use Rattle.codec.specs.declared.image.Image.{Image}
use Rattle.codec.specs.Image.{Lists}
use Rattle.instances.specs.Listed.{AreTheDone}
use Rattle.machine.specs.Machine.{Machine, environment, facts}
use Rattle.machine.proofs.Imaged.{lists_all, all_listed}
use Rattle.machine.proofs.machine.Machine.image.Goals as goal

pub returns-clause-lists : goal.returns-clause-lists
returns-clause-lists c =
    let m = c.self.inside.memory in
    let image : Image = record { fault = m.fault; items = c.new.result; tags = c.new-2.result; done = c.new-3.result } in
    subst (λ (seen : Machine). Lists image (environment seen) (facts seen)) c.self.view_is
    (lists_all c.facts_are_told_apart.ensures.one c.facts_are_told_apart.ensures.among c.images_of_maps.ensures.maps c.images_of_maps.ensures.rest c.self.inside.graph.value m image refl
    (c.new.ensures ∙ c.in_ok-items.ensures) (c.new-2.ensures ∙ c.in_ok-tags.ensures) (subst (AreTheDone m.instances) (sym c.new-3.ensures) c.in_ok-done.ensures))

pub returns-clause-listed : goal.returns-clause-listed
returns-clause-listed c =
    let m = c.self.inside.memory in
    let image : Image = record { fault = m.fault; items = c.new.result; tags = c.new-2.result; done = c.new-3.result } in
    all_listed c.facts_are_told_apart.ensures.one c.facts_are_told_apart.ensures.among c.images_of_maps.ensures.maps c.images_of_maps.ensures.rest c.self.inside.graph.value m image refl
    (c.new.ensures ∙ c.in_ok-items.ensures) (c.new-2.ensures ∙ c.in_ok-tags.ensures) (subst (AreTheDone m.instances) (sym c.new-3.ensures) c.in_ok-done.ensures) c.self.invariant.0
