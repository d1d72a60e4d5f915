-- The values that contracts see collections and steps of a graph as.
use Rattle.std.specs.Prelude.{ℕ, List, map, String}
use Rattle.std.specs.declared.alloc.Global.{Global}
use Rattle.steptree.specs.Nameable.{Collection}
use Rattle.graph.specs.declared.graph.Prescribed.{Prescribed}
use Rattle.graph.specs.Graph.{Step}

abbrev pub collection_seen : List ℕ × ℕ → Collection
collection_seen entry = record { name = entry.0; components = entry.1 }

-- the bytes of each of these strings
abbrev pub owned_texts : List (String Global) → List (List ℕ)
owned_texts names = map (λ name. name.bytes.items) names

abbrev pub step_seen : List ℕ × Prescribed → Step
step_seen entry = record {
  name = entry.0;
  prescriber = entry.1.prescriber.0;
  names = owned_texts entry.1.checked.names.items;
  parameters = entry.1.checked.parameters;
  reads = entry.1.reads.items;
  item_puts = entry.1.item_puts.items;
  tag_puts = entry.1.tag_puts.items;
  body = entry.1.checked.body;
}
