use Rattle.steptree.proofs.Coded.{stays}
use Rattle.steptree.proofs.compiler.compile_simple.Goals as goal

pub returns-clause-code : goal.returns-clause-code
returns-clause-code c = λ rest stop is. (c.in_ok-one.one, c.args.next, c.in_ok-at.ensures.stands, c.in_ok-one.ensures, stays _ _ c.in_ok-at.ensures.keeps c.args.next rest stop is)
