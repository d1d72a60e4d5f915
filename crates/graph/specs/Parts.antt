-- The graph that contracts see the parts of a graph as.
use Rattle.std.specs.Prelude.{map}
use Rattle.graph.specs.declared.parts.Parts.TheInside.{Inside}
use Rattle.graph.specs.Graph.{Graph}
use Rattle.graph.specs.Seen.{collection_seen, step_seen}

abbrev pub parts_seen : Inside → Graph
parts_seen parts = record {
  items = map collection_seen parts.items.now;
  tags = map collection_seen parts.tags.now;
  steps = map step_seen parts.steps.now;
  environment_item_puts = parts.environment_item_puts.now;
  environment_tag_puts = parts.environment_tag_puts.now;
  environment_gets = parts.environment_gets.now;
}
