-- Which token is met at the beginning of an operand, and after one.
use Rattle.std.proofs.Common.{◌≡◌, ℕ, ℤ, List, arith}
use Rattle.std.specs.Borrow.{Bor}
use Rattle.std.specs.Int.{cast_unsigned, w64}
use Rattle.steptree.specs.declared.expression.Operator.{Operator}
use Rattle.syntax.specs.declared.joints.Head.TheVariants.{Minus, OpenBracket, Number, Variable, Other}
use Rattle.syntax.specs.declared.joints.Joint.TheVariants as joined
use Rattle.syntax.specs.declared.token.Symbol.{Symbol}
use Rattle.syntax.specs.declared.token.Symbol.TheVariants as sign
use Rattle.syntax.specs.Tokens.{Lexeme, symbol, number, name}
use Rattle.syntax.specs.Spelled.{multiplication_sign, addition_sign, comparison_sign}
use Rattle.syntax.specs.Tree.{multiplication_operator, addition_operator, comparison_operator}
use Rattle.syntax.specs.Expected.{Joint, Head, no_head, head, joint, by_product, by_sum, by_comparison, ends}
use Rattle.syntax.specs.Joints.{IsHead, IsJoint}

pub is_minus : (lexeme : Lexeme) → IsHead (head lexeme) Minus → lexeme ≡ symbol sign.Minus
is_minus lexeme met = grind arith

pub is_bracket : (lexeme : Lexeme) → IsHead (head lexeme) OpenBracket → lexeme ≡ symbol sign.OpenRound
is_bracket lexeme met = grind arith

pub is_number : (lexeme : Lexeme) (value : ℤ) → IsHead (head lexeme) (Number value) → lexeme ≡ number (cast_unsigned w64 value)
is_number lexeme value met = grind arith

pub is_variable : (lexeme : Lexeme) (text : Bor (List ℕ)) → IsHead (head lexeme) (Variable text) → lexeme ≡ name text.now
is_variable lexeme text met = grind arith

pub is_no_head : (it : Head) → IsHead it Other → it ≡ no_head
is_no_head it met = grind arith

-- ---- after an operand

pub record Joins {How : Type 0} (joint_by : How → Joint) (sign_of : How → Symbol) (operator_of : How → Operator) (lexeme : Lexeme) (operator : Operator) : Type 0 where
  pub how : How
  pub it : Symbol
  pub is : lexeme ≡ symbol it
  pub joins : joint (symbol it) ≡ joint_by how
  pub signed : it ≡ sign_of how
  pub operates : operator ≡ operator_of how

pub joins_product : (lexeme : Lexeme) (operator : Operator) → IsJoint (joint lexeme) (joined.Product operator) → Joins by_product multiplication_sign multiplication_operator lexeme operator
joins_product lexeme operator met = grind arith

pub joins_sum : (lexeme : Lexeme) (operator : Operator) → IsJoint (joint lexeme) (joined.Sum operator) → Joins by_sum addition_sign addition_operator lexeme operator
joins_sum lexeme operator met = grind arith

pub joins_comparison : (lexeme : Lexeme) (operator : Operator) → IsJoint (joint lexeme) (joined.Comparison operator) → Joins by_comparison comparison_sign comparison_operator lexeme operator
joins_comparison lexeme operator met = grind arith

pub is_close : (lexeme : Lexeme) → IsJoint (joint lexeme) joined.Closes → lexeme ≡ symbol sign.CloseRound
is_close lexeme met = grind arith

pub is_end : (it : Joint) → IsJoint it joined.Ends → it ≡ ends
is_end it met = grind arith
