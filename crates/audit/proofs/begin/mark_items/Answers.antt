use Rattle.std.proofs.Common.{List, ◌∷◌, refl, subst}
use Rattle.terms.specs.declared.producer.Producer.{Producer}
use Rattle.terms.specs.declared.producer.Producer.TheVariants.{Env}
use Rattle.audit.proofs.Beginning.{GivenItem, HasGivenItem, item_went_on}
use Rattle.audit.proofs.Listed.{Item, all_items_left}
use Rattle.audit.proofs.Left.{Left, none_left}
use Rattle.audit.proofs.begin.mark_items.Goals as goal

pub loop-addr-init : goal.loop-addr-init
loop-addr-init c =
    (c.requires, rw (c.into_iter-addr-iterator.ensures.into_iter_gives, c.items-addr-items.ensures) (all_items_left c.facts_are_told_apart.ensures.one c.args.store.now (HasGivenItem c.args.marks.now)))

pub loop-addr-preserved-in-Env : goal.loop-addr-preserved-in-Env
loop-addr-preserved-in-Env c =
    let was = subst (λ (left : List Item). Left (GivenItem c.args.store.now) (HasGivenItem c.loop-addr.marks) left) c.in-Some.ensures.steps c.loop-addr.invariant.1 in
    item_went_on c.facts_are_told_apart.ensures.one c.facts_are_told_apart.ensures.among c.reached_goes_on.ensures.takes c.args.store.now c.loop-addr.marks c.mark_item.new.self c.is_kept.ensures c.loop-addr.invariant.0 c.in-Some.addr c.in-Some.field-0-1-0 c.next.new.self
    (subst (λ (by : Producer). Left (GivenItem c.args.store.now) (HasGivenItem c.loop-addr.marks) ((c.in-Some.addr, (c.in-Some.field-0-1-0, by)) ∷ c.next.new.self)) c.in-Env.is was) c.mark_item.ensures.after

pub returns-clause-items : goal.returns-clause-items
returns-clause-items c address value there =
    none_left (GivenItem c.args.store.now) (HasGivenItem c.loop-addr.marks) (subst (λ (left : List Item). Left (GivenItem c.args.store.now) (HasGivenItem c.loop-addr.marks) left) c.in-None.ensures.steps.0 c.loop-addr.invariant.1)
    (address, (value, Env)) there refl
