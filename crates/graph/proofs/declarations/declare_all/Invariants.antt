use Rattle.graph.proofs.Resolving.{SoFar}
use Rattle.graph.proofs.declarations.declare_all.Given as goal

abbrev pub invariant-loop-declaration : goal.invariant-loop-declaration
invariant-loop-declaration l = SoFar l.declarations l.declaration-index l.items l.tags
