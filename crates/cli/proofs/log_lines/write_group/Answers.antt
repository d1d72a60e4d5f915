use Rattle.cli.specs.LogText.{group_lines}
use Rattle.cli.proofs.LogWritten.{event_written}
use Rattle.cli.proofs.log_lines.write_group.Goals as goal

pub loop-index-preserved : goal.loop-index-preserved
loop-index-preserved g c =
    event_written c.args.graph.now c.args.number c.args.events.now c.loop-index.index c.index-events-index.result (g.W.Write.contents c.args.out.now) (g.W.Write.contents c.loop-index.out)
    (g.W.Write.contents c.write.new.self) (g.W.Write.contents c.write_event.new.out) (group_lines c.args.graph.now c.args.number 1 c.args.events.now)
    c.index-events-index.is c.loop-index-test.true c.loop-index.invariant c.in_ok-write.ensures.bytes c.in_ok-write_event.ensures
