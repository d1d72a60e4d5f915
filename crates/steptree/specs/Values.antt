-- What an expression gives: a value of 64 bits, or a fault in its place.
use Rattle.std.specs.Prelude.{◌^◌, ◌&&◌, ℤ, pos, ◌+ℤ◌, ◌-ℤ◌, ◌*ℤ◌, neg_ℤ, int_lt, int_le, int_div, int_rem, Bool, not, List, [], ◌∷◌, Result, Ok, Err, if◌then◌else◌, get_or}
use Rattle.std.specs.Ordering.{int_eq}
use Rattle.terms.specs.declared.fault.FaultKind.{FaultKind}
use Rattle.terms.specs.declared.fault.FaultKind.TheVariants.{Overflow, DivisionByZero}
use Rattle.steptree.specs.declared.expression.Operator.{Operator}
use Rattle.steptree.specs.declared.expression.Operator.TheVariants as operator
use Rattle.steptree.specs.Tree.{Expression, Number, Variable, Negation, Operation}

-- whether the number fits in 64 bits, with its sign
abbrev pub is_held : ℤ → Bool
is_held number = int_le (neg_ℤ (pos (2 ^ 63))) number && int_lt number (pos (2 ^ 63))

abbrev pub held : ℤ → Result ℤ FaultKind
held number = if is_held number then Ok number else Err Overflow

-- 1 if it holds, else 0
abbrev pub truth : Bool → ℤ
truth holds = if holds then pos 1 else pos 0

-- an operator on two values: division rounds toward zero, and a remainder has the sign of the dividend
abbrev pub operated : Operator → ℤ → ℤ → Result ℤ FaultKind
operated operator.Add left right = held (left +ℤ right)
operated operator.Subtract left right = held (left -ℤ right)
operated operator.Multiply left right = held (left *ℤ right)
operated operator.Divide left right = if int_eq right (pos 0) then Err DivisionByZero else held (int_div left right)
operated operator.Remainder left right = if int_eq right (pos 0) then Err DivisionByZero else Ok (int_rem left right)
operated operator.Equal left right = Ok (truth (int_eq left right))
operated operator.NotEqual left right = Ok (truth (not (int_eq left right)))
operated operator.Less left right = Ok (truth (int_lt left right))
operated operator.LessOrEqual left right = Ok (truth (int_le left right))
operated operator.Greater left right = Ok (truth (int_lt right left))
operated operator.GreaterOrEqual left right = Ok (truth (int_le right left))

-- a value goes on, and a fault stays
abbrev pub with_value : {X Y : Type 0} → Result X FaultKind → (X → Result Y FaultKind) → Result Y FaultKind
with_value (Ok value) next = next value
with_value (Err kind) next = Err kind

-- the value of an expression when the variables have these values; operands are evaluated from the left
abbrev pub value_of : Expression → List ℤ → Result ℤ FaultKind
value_of (Number number) variables = Ok number
value_of (Variable slot) variables = Ok (get_or variables slot (pos 0))
value_of (Negation operand) variables = with_value (value_of operand variables) (λ value. held (neg_ℤ value))
value_of (Operation between left right) variables =
    with_value (value_of left variables) (λ x. with_value (value_of right variables) (λ y. operated between x y))

-- the values of several expressions, from the left
abbrev pub values_of : List Expression → List ℤ → Result (List ℤ) FaultKind
values_of [] variables = Ok []
values_of (first ∷ rest) variables = with_value (value_of first variables) (λ value. with_value (values_of rest variables) (λ values. Ok (value ∷ values)))
