use Rattle.std.proofs.Common.{◌≡◌, List, length}
use Rattle.steptree.specs.Names.{Text}
use Rattle.graph.specs.Relations.{AreNumbers}
use Rattle.graph.proofs.Relating.{RelatedSoFar}
use Rattle.graph.proofs.relations.relate_all.Given as goal

abbrev pub invariant-loop-relation : goal.invariant-loop-relation
invariant-loop-relation l = (items tags names : List Text) → AreNumbers items tags names l.numbers → length names ≡ l.steps → RelatedSoFar items tags names l.relations l.relation-index l.them
