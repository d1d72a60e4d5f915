use Rattle.std.proofs.Common.{◌∙◌, Bor, ap, refl}
use Rattle.steptree.specs.Names.{Text}
use Rattle.graph.specs.Prescribed.{names_of_steps}
use Rattle.report.proofs.Names.{told_name}
use Rattle.report.proofs.named.step_name_of.Goals as goal

pub returns : goal.returns
returns c =
    ap (λ (name : Bor Text). name.now) c.unwrap_or.ensures ∙ told_name c.step_name.result _ (names_of_steps c.args.graph.now.steps) c.args.collection.0 refl c.step_name.ensures.name
