use Rattle.std.proofs.Common.{◌≡◌, ◌++◌, drop}
use Rattle.std.specs.List.{flat_map, zip}
use Rattle.graph.specs.Canonical.{marked}
use Rattle.graph.specs.Numbered.{names_numbered}
use Rattle.graph.specs.Pieces.{relation_line}
use Rattle.graph.proofs.canonical_text.relations.put_relations.Given as goal

-- what is written, with what is still to come
abbrev pub invariant-loop-number : goal.invariant-loop-number
invariant-loop-number l =
    l.text.items ++ flat_map (relation_line l.kind) (marked (zip (drop l.number (names_numbered l.collections)) (drop l.number l.marks)))
    ≡ l.fn.text.items ++ flat_map (relation_line l.kind) (marked (zip (names_numbered l.collections) l.marks))
