use Rattle.std.proofs.Common.{◌≡◌, ◌∙◌, ◌++◌, ◌∷◌, ◌<◌, ◌+◌, [], List, IsSome, Some, ap, arith, drop, length, rules, subst, sym, slice_get}
use Rattle.std.proofs.lemmas.List.{length-append}
use Rattle.terms.specs.declared.event.Event.{Event}
use Rattle.commit.specs.declared.outcome.Outcome.{Outcome}
use Rattle.commit.specs.Batch.{end_said, ends_by, ends_said}
use Rattle.commit.proofs.Batches.{empty, none_left, one_more, some_at}
use Rattle.commit.proofs.batch.Batch.into_ends.Goals as goal

pub loop-outcome-init : goal.loop-outcome-init
loop-outcome-init c = search rules

pub unwrap-instance-requires : goal.unwrap-instance-requires
unwrap-instance-requires c =
    let steps = c.in-Some.ensures.steps.0 in
    let counted : length c.loop-outcome.outcome-iterator.rest.items ≡ length c.next.new.self.rest.items + 1 = ap length steps ∙ omega arith in
    let within : c.len.result < length c.self.inside.tasks = omega (arith, counted, c.loop-outcome.invariant.1, c.len.ensures) in
    subst IsSome (sym c.get.ensures) (some_at c.self.inside.tasks c.len.result within)

pub push_reserved-requires : goal.push_reserved-requires
push_reserved-requires c = search rules

pub loop-outcome-preserved : goal.loop-outcome-preserved
loop-outcome-preserved c =
    let tasks = c.self.inside.tasks in
    let made = c.loop-outcome.ends.items in
    let left = c.next.new.self.rest.items in
    let steps : c.loop-outcome.outcome-iterator.rest.items ≡ c.in-Some.outcome ∷ left = c.in-Some.ensures.steps.0 in
    let counted : length c.loop-outcome.outcome-iterator.rest.items ≡ length left + 1 = ap length steps ∙ omega arith in
    let at : c.len.result ≡ length made = search rules in
    let there : slice_get tasks (length made) ≡ Some c.unwrap-instance.result = ap (λ n. slice_get tasks n) (sym at) ∙ sym c.get.ensures ∙ c.unwrap-instance.ensures in
    let pushed : c.push_reserved.new.self.items ≡ made ++ end_said c.unwrap-instance.result c.in-Some.outcome ∷ [] = c.push_reserved.ensures.items ∙ ap (λ (end : Event). made ++ end ∷ []) c.end_of.ensures in
    let longer : length c.push_reserved.new.self.items ≡ length made + 1 = ap length pushed ∙ length-append made (end_said c.unwrap-instance.result c.in-Some.outcome ∷ []) in (
      ap (λ (list : List Event). list ++ ends_by (drop (length list) tasks) left) pushed
          ∙ one_more tasks made c.unwrap-instance.result c.in-Some.outcome left there
          ∙ ap (λ (list : List Outcome). made ++ ends_by (drop (length made) tasks) list) (sym steps) ∙ c.loop-outcome.invariant.0,
      omega (arith, longer, counted, c.loop-outcome.invariant.1),
      search rules,
    )

pub returns-clause-ends : goal.returns-clause-ends
returns-clause-ends c =
    let counted : length c.loop-outcome.outcome-iterator.rest.items ≡ 0 = search rules in
    let none = empty c.loop-outcome.outcome-iterator.rest.items counted in
    let all = c.loop-outcome.invariant.0 in
    let whole : ends_by c.self.inside.tasks c.into_iter-outcome-iterator.result.rest.items ≡ ends_said c.args.self = search rules in
    sym (none_left c.self.inside.tasks c.loop-outcome.ends.items c.loop-outcome.outcome-iterator.rest.items none) ∙ all ∙ whole
