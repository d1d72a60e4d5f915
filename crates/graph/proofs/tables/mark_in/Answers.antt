use Rattle.std.proofs.Common.{arith}
use Rattle.std.proofs.lemmas.Result.{IfOk-weaker}
use Rattle.graph.proofs.Marks.{marked_row}
use Rattle.graph.proofs.tables.mark_in.Goals as goal

pub returns-then-row-len-clause-marked : goal.returns-then-row-len-clause-marked
returns-then-row-len-clause-marked c =
    rw c.in-Some.is
    (IfOk-weaker c.mark.result _ _ (λ _ marked. marked_row c.args.rows.now.items c.in-Some.row _ _ c.args.place (omega arith) c.index_mut.ensures.value marked)
    c.mark.ensures.marked)
