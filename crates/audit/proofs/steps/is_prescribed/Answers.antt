use Rattle.std.proofs.Common.{◌≡◌, ◌∙◌, true, subst, sym}
use Rattle.terms.specs.declared.name.Tag.{Tag}
use Rattle.terms.specs.Facts.{tag}
use Rattle.machine.specs.Marked.{marked}
use Rattle.audit.proofs.Looking.{prescribes, the_prescriber}
use Rattle.audit.proofs.steps.is_prescribed.Goals as goal

pub returns-in-Some : goal.returns-in-Some
returns-in-Some c = (
  λ is. (record { collection = c.in-Some.collection; key = c.args.inst.key }, sym c.is_tag_marked.ensures ∙ is, prescribes c.args.graph.now c.args.inst c.in-Some.collection c.in-Some.ensures),
  λ it. c.is_tag_marked.ensures ∙ subst (λ (name : Tag). marked c.args.marks.now (tag name) ≡ true) (the_prescriber c.args.graph.now c.args.inst c.in-Some.collection c.in-Some.ensures it.0 it.2) it.1,
)
