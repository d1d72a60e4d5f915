use Rattle.std.proofs.Common.{◌≡◌, ◌∙◌, ◌+◌, ◌<◌, suc, ap, List, length, get_or, set, arith}
use Rattle.instances.specs.Known.{with_instance}
use Rattle.instances.specs.declared.step.Step.{Step}
use Rattle.instances.proofs.Moved.{read_at}
use Rattle.instances.proofs.Stepwise.{changed, next_is, one_more, all_changed}
use Rattle.instances.proofs.instances.prescribe_all.Goals as goal

pub prescribe-requires : goal.prescribe-requires
prescribe-requires c =
    let old = c.args.steps.now.items in
    let within : c.loop-number.number < length old = omega (arith, c.loop-number-test.true, c.len-number-end.ensures, c.args.steps.now.ok.0) in
    let is = c.index_mut.ensures.value ∙ ap (λ (items : List Step). get_or items c.loop-number.number c.index_mut.result.now) c.loop-number.invariant ∙ next_is (with_instance c.args.tag) c.loop-number.number old c.index_mut.result.now in
    c.requires c.loop-number.number c.index_mut.result.now (read_at old c.loop-number.number c.index_mut.result.now within is)

pub loop-number-preserved : goal.loop-number-preserved
loop-number-preserved c =
    let old = c.args.steps.now.items in
    let within : c.loop-number.number < length old = omega (arith, c.loop-number-test.true, c.len-number-end.ensures, c.args.steps.now.ok.0) in
    let is = c.index_mut.ensures.value ∙ ap (λ (items : List Step). get_or items c.loop-number.number c.index_mut.result.now) c.loop-number.invariant ∙ next_is (with_instance c.args.tag) c.loop-number.number old c.index_mut.result.now in
    let next : suc c.loop-number.number ≡ c.loop-number.number + 1 = omega arith in
    ap (λ (items : List Step). set items c.loop-number.number c.prescribe.new.self) c.loop-number.invariant ∙ ap (set (changed (with_instance c.args.tag) c.loop-number.number old) c.loop-number.number) c.prescribe.ensures
    ∙ one_more (with_instance c.args.tag) c.loop-number.number old c.index_mut.result.now within is ∙ ap (λ n. changed (with_instance c.args.tag) n old) next

pub returns : goal.returns
returns c =
    let old = c.args.steps.now.items in
    let ended : c.loop-number.number ≡ length old = omega (arith, c.loop-number-test.false, c.loop-number.auto.number-end, c.len-number-end.ensures, c.args.steps.now.ok.0) in
    c.loop-number.invariant ∙ ap (λ n. changed (with_instance c.args.tag) n old) ended ∙ all_changed (with_instance c.args.tag) old
