use Rattle.std.proofs.Common.{drop}
use Rattle.std.specs.List.{flat_map}
use Rattle.cli.specs.LogText.{own_put_line}
use Rattle.cli.proofs.LogWritten.{IsWritten}
use Rattle.cli.proofs.log_lines.write_end.Given as goal

abbrev pub invariant-loop-put : goal.invariant-loop-put
invariant-loop-put g l = IsWritten (g.W.Write.contents l.initial.out) (g.W.Write.contents l.out) (flat_map (own_put_line l.graph) (drop l.put-index l.puts)) (flat_map (own_put_line l.graph) l.puts)
