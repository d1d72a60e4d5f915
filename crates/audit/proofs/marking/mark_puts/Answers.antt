use Rattle.audit.proofs.Replaying.{all_marked, marks_nothing, one_marked}
use Rattle.audit.proofs.marking.mark_puts.Goals as goal

pub loop-put-init : goal.loop-put-init
loop-put-init c instance all = marks_nothing c.args.marks.now

pub loop-put-preserved : goal.loop-put-preserved
loop-put-preserved c instance all =
    one_marked c.facts_are_told_apart.ensures.among c.args.marks.now c.loop-put.marks c.mark_put.new.marks instance c.args.puts.now c.loop-put.put-index c.put-item.result c.loop-put-test.true c.put-item.is all (c.loop-put.invariant instance all)
    (c.mark_put.ensures instance c.loop-put.put-index)

pub returns : goal.returns
returns c instance all = all_marked c.args.marks.now c.loop-put.marks instance c.args.puts.now c.loop-put.put-index c.loop-put-test.false (c.loop-put.invariant instance all)
