use Rattle.std.proofs.Common.{◌≡◌, ◌≢◌, length, rules}
use Rattle.syntax.specs.declared.tree.Tree.{Tree}
use Rattle.syntax.specs.Parsed.{left}
use Rattle.syntax.proofs.GraphParts.{graph_read, graph_stops}
use Rattle.syntax.proofs.parser.whole_tree.Goals as goal

pub returns-then-not-is_at_end-clause-stops : goal.returns-then-not-is_at_end-clause-stops
returns-then-not-is_at_end-clause-stops c =
    let some : length (left c.steps.new.cursor) ≢ 0 = search rules in
    graph_stops c.in_ok-declarations.ensures.reads c.in_ok-steps.ensures.reads some

pub returns-clause-reads : goal.returns-clause-reads
returns-clause-reads c =
    let none : length (left c.steps.new.cursor) ≡ 0 = search rules in
    let preamble = c.in_ok-declarations.field-0 in
    let tree : Tree = record { declarations = preamble.declarations; relations = preamble.relations; steps = c.in_ok-steps.steps } in
    graph_read tree c.in_ok-declarations.ensures.reads c.in_ok-steps.ensures.reads none
