use Rattle.deques.proofs.Balanced.{once}
use Rattle.deques.proofs.once_each.each_comes_out_once.Goals as goal

pub returns : goal.returns
returns c = once
