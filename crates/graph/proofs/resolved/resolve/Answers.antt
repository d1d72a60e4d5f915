use Rattle.std.proofs.Common.{◌∙◌, refl, sym, ap, length}
use Rattle.graph.proofs.Faultless.{fault_passed_on}
use Rattle.graph.proofs.Resolving.{relation_first, related, prescribers_long, step_first, no_fault}
use Rattle.graph.proofs.resolved.resolve.Goals as goal

pub returns-in_err-relations : goal.returns-in_err-relations
returns-in_err-relations c =
    fault_passed_on _ _ c.from_residual-in_err-relations.result _ c.from_residual-in_err-relations.ensures.1
    (relation_first c.args.tree.now _ _ _ _ _ (rw c.deref.ensures.value at c.in_ok-items.ensures.faults) (rw c.deref.ensures.value at c.in_ok-items.ensures.items)
    (rw c.deref.ensures.value at c.in_ok-items.ensures.tags) (rw c.deref-2.ensures.value at c.in_ok-steps.ensures) refl refl refl (c.len.ensures ∙ sym c.deref-2.ensures.len ∙ ap length c.deref-2.ensures.value)
    _ (rw c.deref-3.ensures.value at c.in_err-relations.ensures))

pub check_steps-requires : goal.check_steps-requires
check_steps-requires c =
    prescribers_long c.args.tree.now _ _ _ _ _ (rw c.deref.ensures.value at c.in_ok-items.ensures.faults) (rw c.deref.ensures.value at c.in_ok-items.ensures.items)
    (rw c.deref.ensures.value at c.in_ok-items.ensures.tags) (rw c.deref-2.ensures.value at c.in_ok-steps.ensures) refl refl refl (c.len.ensures ∙ sym c.deref-2.ensures.len ∙ ap length c.deref-2.ensures.value)
    _ (rw c.deref-3.ensures.value at c.in_ok-relations.ensures) ∙ ap length (sym c.deref-5.ensures.value)

pub returns-in_err-check_steps : goal.returns-in_err-check_steps
returns-in_err-check_steps c =
    fault_passed_on _ _ c.from_residual-in_err-check_steps.result _ c.from_residual-in_err-check_steps.ensures.1
    (step_first c.args.tree.now _ _ _ _ _ (rw c.deref.ensures.value at c.in_ok-items.ensures.faults) (rw c.deref.ensures.value at c.in_ok-items.ensures.items)
    (rw c.deref.ensures.value at c.in_ok-items.ensures.tags) (rw c.deref-2.ensures.value at c.in_ok-steps.ensures) refl refl refl (c.len.ensures ∙ sym c.deref-2.ensures.len ∙ ap length c.deref-2.ensures.value)
    _ (rw c.deref-3.ensures.value at c.in_ok-relations.ensures)
    _ (rw (c.deref-4.ensures.value, c.in_ok-items.ensures.tags.declared, c.deref.ensures.value, c.deref-5.ensures.value) at c.in_err-check_steps.ensures))

pub returns : goal.returns
returns c = (
  no_fault c.args.tree.now _ _ _ _ _ (rw c.deref.ensures.value at c.in_ok-items.ensures.faults) (rw c.deref.ensures.value at c.in_ok-items.ensures.items)
      (rw c.deref.ensures.value at c.in_ok-items.ensures.tags) (rw c.deref-2.ensures.value at c.in_ok-steps.ensures) refl refl refl (c.len.ensures ∙ sym c.deref-2.ensures.len ∙ ap length c.deref-2.ensures.value)
      _ (rw c.deref-3.ensures.value at c.in_ok-relations.ensures)
      (rw (c.deref-4.ensures.value, c.in_ok-items.ensures.tags.declared, c.deref.ensures.value, c.deref-5.ensures.value) at c.in_ok-check_steps.ensures),
  record {
    items = rw c.deref.ensures.value at c.in_ok-items.ensures.items;
    tags = rw c.deref.ensures.value at c.in_ok-items.ensures.tags;
    relations = related c.args.tree.now _ _ _ _ _ (rw c.deref.ensures.value at c.in_ok-items.ensures.faults) (rw c.deref.ensures.value at c.in_ok-items.ensures.items)
        (rw c.deref.ensures.value at c.in_ok-items.ensures.tags) (rw c.deref-2.ensures.value at c.in_ok-steps.ensures) refl refl refl (c.len.ensures ∙ sym c.deref-2.ensures.len ∙ ap length c.deref-2.ensures.value)
        _ (rw c.deref-3.ensures.value at c.in_ok-relations.ensures);
  },
)
