use Rattle.std.specs.List.{flat_map}
use Rattle.cli.specs.LogText.{own_put_line}
use Rattle.cli.proofs.LogWritten.{put_written}
use Rattle.cli.proofs.log_lines.write_end.Goals as goal

pub loop-put-preserved : goal.loop-put-preserved
loop-put-preserved g c =
    put_written c.args.graph.now c.args.puts.now c.loop-put.put-index c.put-item.result (g.W.Write.contents c.writeln.new.self) (g.W.Write.contents c.loop-put.out) (g.W.Write.contents c.write_put.new.out)
    (flat_map (own_put_line c.args.graph.now) c.args.puts.now) c.put-item.is c.loop-put-test.true c.loop-put.invariant c.in_ok-write_put.ensures
