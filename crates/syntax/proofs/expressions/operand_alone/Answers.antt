use Rattle.std.proofs.Common.{subst}
use Rattle.std.specs.Int.{cast_unsigned, w64}
use Rattle.syntax.specs.Expected.{head, joint}
use Rattle.syntax.specs.Parsed.{left}
use Rattle.syntax.specs.Front.{front_of}
use Rattle.syntax.specs.Joints.{IsHead, IsJoint}
use Rattle.syntax.specs.declared.joints.Head.TheVariants.{Number, Variable}
use Rattle.syntax.specs.declared.joints.Joint.TheVariants as joined
use Rattle.syntax.proofs.Heads.{is_number, is_variable, is_end}
use Rattle.syntax.proofs.Natural.{signed, small_front}
use Rattle.syntax.proofs.Wholes.{number_alone, variable_alone}
use Rattle.syntax.proofs.expressions.operand_alone.Goals.{in-Number, in-Variable}
use Rattle.syntax.proofs.expressions.operand_alone.Goals as goal

pub returns-clause-reads : goal.returns-clause-reads
returns-clause-reads c = λ may comparing is fresh.
    let before = left c.args.cursor.now in
    let end = is_end _ (subst (λ it. IsJoint (joint it) joined.Ends) c.second.ensures c.in-Ends.ensures) in elim c.match-of-2.branch [
      | in-Number w ↦
          let number = w.in-Number.value in
          let value = cast_unsigned w64 number in
          let lexeme = is_number (front_of before).0 number (subst (λ it. IsHead (head it) (Number number)) c.front.ensures w.in-Number.ensures) in
          let small = small_front c.args.cursor.now.passed c.args.cursor.now.tokens.items value c.args.cursor.now.natural lexeme in
          rw w.node-is (number_alone comparing before value _ fresh lexeme (signed value small) end)
      | in-Variable w ↦
          let text = w.in-Variable.text in
          let lexeme = is_variable (front_of before).0 text (subst (λ it. IsHead (head it) (Variable text)) c.front.ensures w.in-Variable.ensures) in
          rw w.node-is (variable_alone comparing before _ fresh lexeme w.place.ensures w.if-text-le-MOST_NAME_BYTES.true end)
    ]
