use Rattle.std.proofs.Common.{length}
use Rattle.script.proofs.Lines.{SoFar}
use Rattle.script.proofs.parser.parse_script.Given as goal

abbrev pub invariant-loop-tokens : goal.invariant-loop-tokens
invariant-loop-tokens l = SoFar l.graph l.text l.left l.number l.commands.items

abbrev pub decreases-loop-tokens : goal.decreases-loop-tokens
decreases-loop-tokens l = length l.left
