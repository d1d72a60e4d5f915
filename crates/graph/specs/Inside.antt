-- The value that contracts see a graph as, and what each graph satisfies.
use Rattle.std.specs.Prelude.{◌≡◌, ℕ, map, length, Some, slice_get, Vec}
use Rattle.std.specs.declared.alloc.Global.{Global}
use Rattle.terms.specs.declared.name.StepCollection.{StepCollection}
use Rattle.graph.specs.declared.graph.Graph.TheInside.{Inside}
use Rattle.graph.specs.Canonical.{canonical}
use Rattle.graph.specs.Graph.{Graph, IsGraph}
use Rattle.graph.specs.Prescribed.{prescribed_by}
use Rattle.graph.specs.Reads.{Reads}
use Rattle.graph.specs.Seen.{collection_seen, step_seen}

abbrev pub graph_seen : Inside → Graph
graph_seen g = record {
  items = map collection_seen g.items;
  tags = map collection_seen g.tags;
  steps = map step_seen g.steps;
  environment_item_puts = g.environment_item_puts.items;
  environment_tag_puts = g.environment_tag_puts.items;
  environment_gets = g.environment_gets.items;
}

-- it is a graph, its canonical text reads as it, and for each tag collection it stores the numbers of the steps that this prescribes
pub record IsKept (g : Inside) : Type 0 where
  pub graph : IsGraph (graph_seen g)
  pub reads : Reads (canonical (graph_seen g)) (graph_seen g)
  pub long : length g.prescribes.items ≡ length g.tags
  pub prescribes : (number : ℕ) (steps : Vec StepCollection Global) → slice_get g.prescribes.items number ≡ Some steps → map (λ step. step.0) steps.items ≡ prescribed_by (graph_seen g) number
