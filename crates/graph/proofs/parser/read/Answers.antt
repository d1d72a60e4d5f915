use Rattle.std.proofs.Common.{subst}
use Rattle.syntax.specs.Reading.{IsRead}
use Rattle.graph.proofs.ParsedTexts.{read_text, its_faults}
use Rattle.graph.proofs.SmallTrees.{is_small}
use Rattle.graph.proofs.parser.read.Goals as goal

pub graph_of-requires-clause-small : goal.graph_of-requires-clause-small
graph_of-requires-clause-small c = let read = c.in_ok-tree.ensures.read in is_small read.graph c.in_ok-tree.tree read.is read.within

pub returns-clause-reads : goal.returns-clause-reads
returns-clause-reads c =
    read_text c.args.text.now c.in_ok-tree.tree (c.if-text-gt-MOST_TEXT.false, c.in_ok-plain.ensures.1) (subst (λ it. IsRead it c.in_ok-tree.tree) c.in_ok-plain.ensures.0 c.in_ok-tree.ensures.read)
    _ c.graph_of.result c.graph_of.ensures.graph c.graph_of.ensures.spelled

pub returns-clause-cause : goal.returns-clause-cause
returns-clause-cause c =
    its_faults c.args.text.now c.in_ok-tree.tree (c.if-text-gt-MOST_TEXT.false, c.in_ok-plain.ensures.1) (subst (λ it. IsRead it c.in_ok-tree.tree) c.in_ok-plain.ensures.0 c.in_ok-tree.ensures.read)
    c.graph_of.result c.graph_of.ensures.fault
