-- A tree after its names were replaced by numbers.
use Rattle.std.specs.Prelude.{◌≡◌, []}
use Rattle.syntax.specs.declared.tree.Tree.{Tree}
use Rattle.graph.specs.declared.resolved.Resolved.{Resolved}
use Rattle.graph.specs.Collected.{AreCollected}
use Rattle.graph.specs.Faults.{tree_faults}
use Rattle.graph.specs.Relations.{AreRelations}
use Rattle.steptree.specs.Names.{names_in}
use Rattle.graph.specs.Tree.{items_of, tags_of, step_names}

-- the collections and the relations are those of the tree, by number
pub record IsResolved (tree : Tree) (resolved : Resolved) : Type 0 where
  pub items : AreCollected (items_of tree.declarations.items) resolved.items
  pub tags : AreCollected (tags_of tree.declarations.items) resolved.tags
  pub relations : AreRelations (names_in (items_of tree.declarations.items)) (names_in (tags_of tree.declarations.items)) (step_names tree.steps.items) tree.relations.items resolved.relations

-- the tree has no fault of names or relations, and this is what it is resolved to
abbrev pub Resolves : Tree → Resolved → Type 0
Resolves tree resolved = (tree_faults tree ≡ []) × IsResolved tree resolved
