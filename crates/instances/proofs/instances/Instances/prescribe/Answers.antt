use Rattle.std.proofs.Common.{◌∙◌, ◌<◌, ◌≤◌, ◌^◌, ap, sym, subst, List, length, map, arith}
use mathlib.Core.Bool.{false≢true}
use Rattle.std.specs.FinMap.{get}
use Rattle.maps.specs.Numbered.{room_at}
use Rattle.instances.specs.declared.state.State.TheVariants.{Ready}
use Rattle.instances.specs.declared.step.Step.{Step}
use Rattle.instances.specs.Known.{tag_place, mark_of, room_for, ArePrescribed, Prescribes, with_instance}
use Rattle.instances.proofs.Changes.{when_ok}
use Rattle.instances.proofs.Prescribing.{least_le, room_within, not_refused, can_take, all_prescribed, prescribes}
use Rattle.instances.proofs.instances.Instances.prescribe.Goals as goal

pub insert-requires : goal.insert-requires
insert-requires c =
    let some = subst (λ known. 0 < room_for known c.args.tag.collection) (sym c.self.view_is) c.requires.room in
    room_within c.self.inside.tags.room c.args.tag.collection.0 (omega (arith, some, least_le c.args.tag.collection.0 (room_at c.self.inside.tags c.args.tag.collection.0) c.self.inside.steps.items))

pub prescribe_all-requires : goal.prescribe_all-requires
prescribe_all-requires c =
    let some = subst (λ known. 0 < room_for known c.args.tag.collection) (sym c.self.view_is) c.requires.room in
    can_take c.args.tag c.self.inside.tags c.insert.new.self c.args.by_environment c.self.inside.steps.items (when_ok c.insert.result c.insert.ensures.ok c.if-is_ok.ensures.value) c.self.invariant.1 some

pub invariant_of-self : goal.invariant_of-self
invariant_of-self c =
    subst (λ (steps : List Step). (length steps ≤ 2 ^ 16) × ArePrescribed c.insert.new.self steps) (sym c.prescribe_all.ensures)
    (all_prescribed c.args.tag c.self.inside.tags c.insert.new.self c.args.by_environment c.self.inside.steps.items (when_ok c.insert.result c.insert.ensures.ok c.if-is_ok.ensures.value) c.self.invariant)

pub returns-then-is_ok : goal.returns-then-is_ok
returns-then-is_ok c =
    let some = subst (λ known. 0 < room_for known c.args.tag.collection) (sym c.self.view_is) c.requires.room in
    subst (λ (steps : List Step). Prescribes c.args.self.now (record { tags = c.insert.new.self; steps = steps }) c.args.tag c.args.by_environment (λ _. Ready)) (sym c.prescribe_all.ensures)
    (subst (λ known. Prescribes known (record { tags = c.insert.new.self; steps = map (with_instance c.args.tag) c.self.inside.steps.items }) c.args.tag c.args.by_environment (λ _. Ready)) c.self.view_is
    (prescribes c.args.tag c.self.inside.tags c.insert.new.self c.args.by_environment c.self.inside.steps.items (when_ok c.insert.result c.insert.ensures.ok c.if-is_ok.ensures.value) some))

pub returns-else-is_ok : goal.returns-else-is_ok
returns-else-is_ok c =
    let some = subst (λ known. 0 < room_for known c.args.tag.collection) (sym c.self.view_is) c.requires.room in
    let gone = ap (λ known. mark_of known c.args.tag) c.self.view_is ∙ c.requires.absent in
    let room : 0 < room_at c.self.inside.tags c.args.tag.collection.0 = omega (arith, some, least_le c.args.tag.collection.0 (room_at c.self.inside.tags c.args.tag.collection.0) c.self.inside.steps.items) in
    let ok = not_refused (get c.self.inside.tags.items (tag_place c.args.tag)) (room_at c.self.inside.tags c.args.tag.collection.0) c.insert.result gone room c.insert.ensures.refused in
    absurd (false≢true (c.if-is_ok.ensures.value ∙ ok))
