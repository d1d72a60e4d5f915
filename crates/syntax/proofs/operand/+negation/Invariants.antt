use Rattle.syntax.proofs.operand.+negation.Given as goal

abbrev pub decreases-negation : goal.decreases-negation
decreases-negation l = l.times
