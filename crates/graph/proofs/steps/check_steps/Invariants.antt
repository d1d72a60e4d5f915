use Rattle.std.proofs.Common.{List}
use Rattle.steptree.specs.Names.{Text, names_in}
use Rattle.syntax.specs.declared.tree.Relation.{Relation}
use Rattle.graph.specs.Relations.{AreRelations}
use Rattle.graph.specs.Steps.{ArePlaces}
use Rattle.graph.specs.Tree.{step_names}
use Rattle.graph.proofs.Checking.{IsLeft}
use Rattle.graph.proofs.steps.check_steps.Given as goal

-- the faults that are left to find, if the relations and the numbers are those of the tree
abbrev pub invariant-loop-number : goal.invariant-loop-number
invariant-loop-number l =
    (items : List Text) (all : List Relation) (are : AreRelations items (names_in l.tags) (step_names l.steps) all l.relations) → ArePlaces l.numbered (step_names l.steps)
    → IsLeft l.tags items all l.steps l.relations are l.number
