use Rattle.std.proofs.Common.{◌≡◌, ◌<◌, ◌+◌, ◌^◌, length}
use Rattle.machine.proofs.elements.measured.Given as goal

abbrev pub invariant-loop-measure : goal.invariant-loop-measure
invariant-loop-measure g l = record {
  counted : l.measure.count + g.W.Spelling.count l.walk ≡ g.W.Spelling.count l.fn.walk;
  few : l.measure.count < 2 ^ 32;
  sized : l.measure.length + length (g.W.Spelling.rest l.walk) ≡ length (g.W.Spelling.rest l.fn.walk);
  in_range : g.W.Spelling.InRange l.walk → g.W.Spelling.InRange l.fn.walk;
}

abbrev pub decreases-loop-measure : goal.decreases-loop-measure
decreases-loop-measure g l = length (g.W.Spelling.rest l.walk)
