use Rattle.std.proofs.Common.{◌∷◌, ◌++◌, ap, sym, ◌∙◌}
use Rattle.steptree.specs.Bodies.{ending_of}
use Rattle.steptree.proofs.Trees.{bodies}
use Rattle.steptree.proofs.TreeLaws.{asks_in_order}
use Rattle.steptree.proofs.laws.along_one_list.Goals as goal

pub returns-clause-in_order : goal.returns-clause-in_order
returns-clause-in_order c body key before behind read ending is =
    let tree = bodies body key in
    ap ending_of (tree.1 before) ∙ asks_in_order tree.0 before behind read ending (sym (ap ending_of (tree.1 (before ++ read ∷ behind))) ∙ is)
