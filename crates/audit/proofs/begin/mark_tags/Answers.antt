use Rattle.std.proofs.Common.{Bool, true, List, ◌∷◌, refl, subst}
use Rattle.instances.specs.Known.{mark_of}
use Rattle.audit.proofs.Beginning.{GivenTag, HasGivenTag, given, tag_went_on}
use Rattle.audit.proofs.Listed.{Given, all_tags_left}
use Rattle.audit.proofs.Left.{Left, none_left}
use Rattle.audit.proofs.begin.mark_tags.Goals as goal

pub loop-tag-init : goal.loop-tag-init
loop-tag-init c =
    (c.requires, rw (c.into_iter-tag-iterator.ensures.into_iter_gives, c.tags-tag-items.ensures) (all_tags_left c.args.store.now (HasGivenTag c.args.marks.now)), λ fact there. there)

pub loop-tag-preserved-then-by_environment : goal.loop-tag-preserved-then-by_environment
loop-tag-preserved-then-by_environment c =
    let was = subst (λ (left : List Given). Left (GivenTag c.args.store.now) (HasGivenTag c.loop-tag.marks) left) c.in-Some.ensures.steps c.loop-tag.invariant.1 in
    let went =
    tag_went_on c.facts_are_told_apart.ensures.one c.facts_are_told_apart.ensures.among c.reached_goes_on.ensures.takes c.args.store.now c.loop-tag.marks c.mark_tag.new.self c.is_kept.ensures c.loop-tag.invariant.0 c.in-Some.tag c.next.new.self
    (subst (λ (mark : Bool). Left (GivenTag c.args.store.now) (HasGivenTag c.loop-tag.marks) ((c.in-Some.tag, mark) ∷ c.next.new.self)) c.if-by_environment.true was) c.mark_tag.ensures.after in
    (went.0, went.1, λ fact there. went.2 fact (c.loop-tag.invariant.2 fact there))

pub returns-clause-tags : goal.returns-clause-tags
returns-clause-tags c one there =
    none_left (GivenTag c.args.store.now) (HasGivenTag c.loop-tag.marks) (subst (λ (left : List Given). Left (GivenTag c.args.store.now) (HasGivenTag c.loop-tag.marks) left) c.in-None.ensures.steps.0 c.loop-tag.invariant.1)
    (one, true) (given (mark_of c.args.store.now.memory.instances one) there) refl
