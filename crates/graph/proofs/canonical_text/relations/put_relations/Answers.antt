use Rattle.graph.specs.Numbered.{names_numbered}
use Rattle.graph.specs.Pieces.{relation_line}
use Rattle.graph.proofs.Written.{goes_on, marked_left}
use Rattle.graph.proofs.canonical_text.relations.put_relations.Goals as goal

pub loop-number-preserved : goal.loop-number-preserved
loop-number-preserved c =
    goes_on c.loop-number.text.items _ _ _ _ c.put_relation_at.new.text.items c.in_ok-put_relation_at.ensures
    (marked_left (relation_line c.args.kind) (names_numbered c.args.collections.now) c.args.marks.now c.loop-number.number) c.loop-number.invariant
