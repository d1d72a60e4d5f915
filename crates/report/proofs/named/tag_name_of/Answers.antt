use Rattle.std.proofs.Common.{◌∙◌, Bor, ap, refl}
use Rattle.steptree.specs.Names.{Text, names_in}
use Rattle.report.proofs.Names.{told_name}
use Rattle.report.proofs.named.tag_name_of.Goals as goal

pub returns : goal.returns
returns c =
    ap (λ (name : Bor Text). name.now) c.unwrap_or.ensures ∙ told_name c.tag_name.result _ (names_in c.args.graph.now.tags) c.args.collection.0 refl c.tag_name.ensures.name
