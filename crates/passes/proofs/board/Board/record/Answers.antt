use Rattle.std.proofs.Common.{rules}
use Rattle.passes.proofs.Gathered.{all_with}
use Rattle.passes.proofs.board.Board.record.Goals as goal

pub invariant_of-pass : goal.invariant_of-pass
invariant_of-pass g c = search (rules, all_with)
