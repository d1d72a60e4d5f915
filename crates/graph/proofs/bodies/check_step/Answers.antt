use Rattle.std.proofs.Common.{Some, ◌≡◌, ◌∙◌, ap, sym, subst, refl, map}
use Rattle.terms.specs.declared.name.TagCollection.{TagCollection}
use Rattle.steptree.specs.CheckFaults.{faults_of}
use Rattle.steptree.specs.Nameable.{Nameable}
use Rattle.steptree.specs.Resolved.{Resolves}
use Rattle.steptree.specs.Sheet.{BodyKeepsTo}
use Rattle.graph.specs.CheckedSteps.{IsBodyFault, IsCheckedStep, IsPrescribedBy}
use Rattle.graph.specs.Faults.{body_fault}
use Rattle.graph.specs.Placed.{IsFirst}
use Rattle.graph.proofs.Faultless.{fault_passed_on}
use Rattle.graph.proofs.Sheets.{of_number, within_limits, is_sheet, its_reads, its_item_puts, its_tag_puts, prescribed_by}
use Rattle.graph.proofs.bodies.check_step.Goals as goal

pub check_body-requires : goal.check_body-requires
check_body-requires c =
    within_limits c.args.tree.now c.args.resolved.now c.requires.small c.requires.no_fault c.requires.resolved c.args.number _ c.requires.within c.index.ensures _ c.deref.ensures.value c.deref-2.ensures.value

pub returns-in_err-checked : goal.returns-in_err-checked
returns-in_err-checked c =
    let tree = c.args.tree.now in
    let this = c.index.result.now in
    let is = is_sheet tree c.args.resolved.now c.requires.small c.requires.no_fault c.requires.resolved c.args.number this c.requires.within c.index.ensures
    _ _ _ _ c.deref.ensures.value c.deref-2.ensures.value c.deref-3.ensures.value c.deref-4.ensures.value c.deref-5.ensures.value c.index-reads.ensures c.index-item_puts.ensures c.index-tag_puts.ensures in
    λ step there. fault_passed_on (IsCheckedStep tree step) (IsBodyFault tree step) c.from_residual.result _ c.from_residual.ensures.1
    (of_number (λ s. IsBodyFault tree s c.in_err-checked.field-0.0) tree.steps.items c.args.number this c.index.ensures
    (subst (λ (s : Nameable). IsFirst (map body_fault (faults_of s this)) c.in_err-checked.field-0.0) is c.in_err-checked.ensures.first) step there)

pub unwrap-requires : goal.unwrap-requires
unwrap-requires c =
    let by = prescribed_by c.args.tree.now c.args.resolved.now c.requires.small c.requires.no_fault c.requires.resolved c.args.number _ c.requires.within c.index.ensures c.index-2.result.now c.index-2.ensures in
    rw by.1 refl

pub returns : goal.returns
returns c =
    let tree = c.args.tree.now in
    let this = c.index.result.now in
    let by = prescribed_by tree c.args.resolved.now c.requires.small c.requires.no_fault c.requires.resolved c.args.number this c.requires.within c.index.ensures c.index-2.result.now c.index-2.ensures in
    let same : by.0 ≡ c.unwrap.result = (let both : Some by.0 ≡ Some c.unwrap.result = sym by.1 ∙ c.unwrap.ensures in cc) in
    let reads = its_reads tree c.args.resolved.now c.requires.small c.requires.no_fault c.requires.resolved c.args.number this c.requires.within c.index.ensures in
    let item_puts = its_item_puts tree c.args.resolved.now c.requires.small c.requires.no_fault c.requires.resolved c.args.number this c.requires.within c.index.ensures in
    let tag_puts = its_tag_puts tree c.args.resolved.now c.requires.small c.requires.no_fault c.requires.resolved c.args.number this c.requires.within c.index.ensures in
    let is = is_sheet tree c.args.resolved.now c.requires.small c.requires.no_fault c.requires.resolved c.args.number this c.requires.within c.index.ensures
    _ _ _ _ c.deref.ensures.value c.deref-2.ensures.value c.deref-3.ensures.value c.deref-4.ensures.value c.deref-5.ensures.value c.index-reads.ensures c.index-item_puts.ensures c.index-tag_puts.ensures in
    of_number (λ s. IsCheckedStep tree s _) tree.steps.items c.args.number this c.index.ensures (record {
      prescriber = subst (λ (t : TagCollection). IsPrescribedBy tree this t.0) same by.2;
      reads = c.in_ok-copied.ensures ∙ reads _ c.index-reads.ensures;
      item_puts = c.in_ok-copied-2.ensures ∙ item_puts _ c.index-item_puts.ensures;
      tag_puts = c.in_ok-copied-3.ensures ∙ tag_puts _ c.index-tag_puts.ensures;
      resolves = subst (λ (s : Nameable). Resolves s this c.in_ok-checked.checked) is c.in_ok-checked.ensures.resolves;
      keeps = subst (λ (s : Nameable). BodyKeepsTo s c.in_ok-checked.checked.body) is c.in_ok-checked.ensures.keeps;
      no_fault = ap (λ (s : Nameable). faults_of s this) (sym is) ∙ c.in_ok-checked.ensures.no_fault;
    })
