-- What a token means to the parser before an operand, and after one.
use Rattle.std.specs.Prelude.{◌≡◌, ⊤}
use Rattle.std.specs.Int.{cast_unsigned, w64}
use Rattle.syntax.specs.declared.joints.Head.{Head as Met}
use Rattle.syntax.specs.declared.joints.Head.TheVariants.{Minus, OpenBracket, Number, Variable, Other}
use Rattle.syntax.specs.declared.joints.Joint.{Joint as Joined}
use Rattle.syntax.specs.declared.joints.Joint.TheVariants as joined
use Rattle.syntax.specs.Tree.{multiplication_operator, addition_operator, comparison_operator}
use Rattle.syntax.specs.Expected.{Head, minus_sign, open_bracket, a_number, a_variable, no_head, Joint, by_product, by_sum, by_comparison, closes, ends}

abbrev pub IsHead : Head → Met → Type 0
IsHead minus_sign Minus = ⊤
IsHead open_bracket OpenBracket = ⊤
IsHead (a_number value) (Number number) = value ≡ cast_unsigned w64 number
IsHead (a_variable text) (Variable name) = text ≡ name.now
IsHead no_head Other = ⊤
IsHead it met = ⊥

abbrev pub IsJoint : Joint → Joined → Type 0
IsJoint (by_product how) (joined.Product operator) = operator ≡ multiplication_operator how
IsJoint (by_sum how) (joined.Sum operator) = operator ≡ addition_operator how
IsJoint (by_comparison how) (joined.Comparison operator) = operator ≡ comparison_operator how
IsJoint closes joined.Closes = ⊤
IsJoint ends joined.Ends = ⊤
IsJoint it met = ⊥
