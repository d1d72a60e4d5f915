use Rattle.std.proofs.Common.{◌∙◌, Bor, ap, refl}
use Rattle.steptree.specs.Names.{Text}
use Rattle.graph.specs.Prescribed.{names_of_steps}
use Rattle.session.proofs.ByName.{told_name}
use Rattle.session.proofs.waiting.name.Goals as goal

pub returns : goal.returns
returns c =
    ap (λ (name : Bor Text). name.now) c.unwrap_or.ensures
    ∙ told_name c.step_name.result _ (names_of_steps c.args.graph.now.steps) c.args.instance.now.collection.0 refl c.step_name.ensures.name
