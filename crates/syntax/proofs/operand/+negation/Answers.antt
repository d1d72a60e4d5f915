use Rattle.std.proofs.Common.{arith}
use Rattle.std.proofs.lemmas.Result.{IfOk-weaker}
use Rattle.syntax.proofs.Operands.{one_minus_more}
use Rattle.syntax.proofs.operand.+negation.Goals as goal

pub returns : goal.returns
returns t c = IfOk-weaker c.negation.result _ _ (λ new rest. one_minus_more c.args.times c.args.tree new c.in_ok-new.field-0 (omega arith) c.in_ok-new.ensures.ok rest) c.negation.ensures
