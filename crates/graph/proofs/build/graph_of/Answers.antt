use Rattle.std.proofs.Common.{◌∙◌, inl, inr, length, refl, ap, arith}
use Rattle.graph.proofs.Faultless.{err_passed_on, in_front}
use Rattle.graph.proofs.GraphsOfTrees.{all_prescribed, few_steps, so_many_tags, is_kept, is_its_graph, graph_rowed, spelled}
use Rattle.graph.proofs.build.graph_of.Goals as goal
use Rattle.graph.specs.Faults.{tree_faults}

pub returns-in_err-resolved-clause-fault : goal.returns-in_err-resolved-clause-fault
returns-in_err-resolved-clause-fault c =
    err_passed_on _ c.from_residual.result _ c.from_residual.ensures.1 (elim (in_front (tree_faults c.args.tree.now) _ _ c.in_err-resolved.ensures) [
      | inl memory ↦ inl memory
      | inr first ↦ inr (inl first)
    ])

pub prescriptions-requires-clause-few : goal.prescriptions-requires-clause-few
prescriptions-requires-clause-few c = few_steps c.args.tree.now c.in_ok-steps.steps c.requires.small c.in_ok-steps.ensures

pub prescriptions-requires-clause-prescribed : goal.prescriptions-requires-clause-prescribed
prescriptions-requires-clause-prescribed c =
    all_prescribed c.args.tree.now _ _ _ (c.len.ensures ∙ so_many_tags c.args.tree.now c.in_ok-resolved.resolved c.in_ok-resolved.ensures.1) c.in_ok-steps.ensures

pub invariant_of-parts : goal.invariant_of-parts
invariant_of-parts c =
    graph_rowed c.args.tree.now c.in_ok-resolved.resolved c.in_ok-steps.steps c.requires.small c.in_ok-resolved.ensures.0 c.in_ok-resolved.ensures.1 c.in_ok-steps.ensures
    _ _ _ c.deref.ensures.value c.deref-2.ensures.value c.deref-3.ensures.value

pub returns-then-len-gt-MOST_TEXT-clause-fault : goal.returns-then-len-gt-MOST_TEXT-clause-fault
returns-then-len-gt-MOST_TEXT-clause-fault c =
    let is = spelled c.args.tree.now c.in_ok-resolved.resolved c.in_ok-steps.steps c.requires.small c.in_ok-resolved.ensures.0 c.in_ok-resolved.ensures.1 c.in_ok-steps.ensures
    _ _ _ _ c.deref.ensures.value c.deref-2.ensures.value c.deref-3.ensures.value c.in_ok-text.ensures in
    inr (inr (
      refl,
      record {
        no_fault = c.in_ok-resolved.ensures.0;
        g = _;
        graph = is_its_graph c.args.tree.now c.in_ok-resolved.resolved c.in_ok-steps.steps c.requires.small c.in_ok-resolved.ensures.0 c.in_ok-resolved.ensures.1 c.in_ok-steps.ensures;
        long = omega (arith, c.if-len-gt-MOST_TEXT.true, c.len-2.ensures, ap length is);
      },
    ))

pub invariant_of-graph : goal.invariant_of-graph
invariant_of-graph c =
    let is = spelled c.args.tree.now c.in_ok-resolved.resolved c.in_ok-steps.steps c.requires.small c.in_ok-resolved.ensures.0 c.in_ok-resolved.ensures.1 c.in_ok-steps.ensures
    _ _ _ _ c.deref.ensures.value c.deref-2.ensures.value c.deref-3.ensures.value c.in_ok-text.ensures in
    rw (c.into_numbered.ensures, c.into_numbered-2.ensures, c.into_environment-environment_item_puts.ensures) (is_kept c.args.tree.now c.in_ok-resolved.resolved c.in_ok-steps.steps c.requires.small c.in_ok-resolved.ensures.0 c.in_ok-resolved.ensures.1 c.in_ok-steps.ensures
    _ _ c.len.ensures c.in_ok-prescribes.ensures c.canonical_reads.ensures c.reads_textual.ensures c.requires.text (omega (arith, c.if-len-gt-MOST_TEXT.false, c.len-2.ensures, ap length is)))

pub returns-clause-graph : goal.returns-clause-graph
returns-clause-graph c =
    (c.in_ok-resolved.ensures.0, rw (c.into_numbered.ensures, c.into_numbered-2.ensures, c.into_environment-environment_item_puts.ensures) (is_its_graph c.args.tree.now c.in_ok-resolved.resolved c.in_ok-steps.steps c.requires.small c.in_ok-resolved.ensures.0 c.in_ok-resolved.ensures.1 c.in_ok-steps.ensures))

pub returns-clause-spelled : goal.returns-clause-spelled
returns-clause-spelled c =
    let is = spelled c.args.tree.now c.in_ok-resolved.resolved c.in_ok-steps.steps c.requires.small c.in_ok-resolved.ensures.0 c.in_ok-resolved.ensures.1 c.in_ok-steps.ensures
    _ _ _ _ c.deref.ensures.value c.deref-2.ensures.value c.deref-3.ensures.value c.in_ok-text.ensures in
    rw (c.into_numbered.ensures, c.into_numbered-2.ensures, c.into_environment-environment_item_puts.ensures) (is, omega (arith, c.if-len-gt-MOST_TEXT.false, c.len-2.ensures, ap length is))
