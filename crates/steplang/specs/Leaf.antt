-- Which expressions have operands, and which formulas more than two operations in a row.
use Rattle.steptree.specs.Tree.{Expression, Number, Variable, Negation, Operation}
use Rattle.steptree.specs.declared.code.Formula.{Formula}
use Rattle.steptree.specs.declared.code.Formula.TheVariants as formula

abbrev pub IsDeep : Expression → Type 0
IsDeep (Number number) = ⊥
IsDeep (Variable slot) = ⊥
IsDeep (Negation operand) = Unit {0}
IsDeep (Operation between left right) = Unit {0}

abbrev pub IsLong : Formula → Type 0
IsLong (formula.Leaf leaf) = ⊥
IsLong (formula.Sum left right) = ⊥
IsLong (formula.SumWith left right) = ⊥
IsLong (formula.Variables between left right) = ⊥
IsLong (formula.WithNumber between left right) = ⊥
IsLong (formula.Two pair) = ⊥
IsLong (formula.First between left right) = ⊥
IsLong (formula.Second between left right) = ⊥
IsLong (formula.FirstThen between inner left right last) = Unit {0}
IsLong (formula.SecondThen between inner left right last) = Unit {0}
IsLong (formula.Both between left right) = ⊥
IsLong (formula.Chain first links) = Unit {0}
IsLong (formula.Deep expression) = Unit {0}
