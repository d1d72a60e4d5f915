use Rattle.std.proofs.Common.{refl, sym, ap, subst, lit≤}
use Rattle.std.specs.Int.{cast_unsigned, w64}
use Rattle.syntax.specs.Grammar.{literal, variable}
use Rattle.syntax.specs.Limits.{name_limits}
use Rattle.syntax.specs.Expected.{operand, negating, bracketing, passing, without_product, product_behind, look_operand, head, broken_off}
use Rattle.syntax.specs.Parsed.{left, TellsMove}
use Rattle.syntax.specs.Front.{front_of}
use Rattle.syntax.specs.Joints.{IsHead}
use Rattle.syntax.specs.declared.joints.Head.TheVariants.{Minus, OpenBracket, Number, Variable, Other}
use Rattle.syntax.proofs.Heads.{is_minus, is_bracket, is_number, is_variable, is_no_head}
use Rattle.syntax.proofs.Natural.{signed, small_front}
use Rattle.syntax.proofs.Forward.{onward_minus, onward_bracket, onward_number, onward_name}
use Rattle.syntax.proofs.Broken.{move_told}
use Rattle.syntax.proofs.partial.Partial.begin.Goals.{in-Number, in-Variable}
use Rattle.syntax.proofs.partial.Partial.begin.Goals as goal

pub returns-in-Minus-clause-follows : goal.returns-in-Minus-clause-follows
returns-in-Minus-clause-follows c = λ state is.
    let before = left c.args.cursor.now in
    let place = c.place-place.result in
    let lexeme = is_minus (front_of before).0 (subst (λ it. IsHead (head it) Minus) c.front.ensures c.in-Minus.ensures) in
    (negating state place, c.negate.ensures place state is, onward_minus before _ place (sym c.place-place.ensures) c.advance.ensures state lexeme)

pub returns-in-OpenBracket-clause-follows : goal.returns-in-OpenBracket-clause-follows
returns-in-OpenBracket-clause-follows c = λ state is.
    let before = left c.args.cursor.now in
    let place = c.place-place.result in
    let lexeme = is_bracket (front_of before).0 (subst (λ it. IsHead (head it) OpenBracket) c.front.ensures c.in-OpenBracket.ensures) in
    (bracketing state place, c.in_ok-open-in-OpenBracket.ensures state is, onward_bracket before _ place (sym c.place-place.ensures) c.advance-in-OpenBracket.ensures state lexeme)

pub returns-in-Other-clause-stops : goal.returns-in-Other-clause-stops
returns-in-Other-clause-stops c = λ state is behind.
    let before = left c.args.cursor.now in
    let none = is_no_head (head (front_of before).0) (subst (λ it. IsHead (head it) Other) c.front.ensures c.in-Other.ensures) in
    move_told c.broken_off.result _ (operand state) behind before (subst (λ passed. TellsMove c.broken_off.result (broken_off passed)) is.passed c.broken_off.ensures) (ap (look_operand state (front_of before).1) none)

pub returns-clause-follows : goal.returns-clause-follows
returns-clause-follows c = λ state is.
    let before = left c.args.cursor.now in
    let place = c.place-place.result in elim c.match-of.branch [
      | in-Number w ↦
          let number = w.in-Number.value in
          let value = cast_unsigned w64 number in
          let lexeme = is_number (front_of before).0 number (subst (λ it. IsHead (head it) (Number number)) c.front.ensures w.in-Number.ensures) in
          let small = small_front c.args.cursor.now.passed c.args.cursor.now.tokens.items value c.args.cursor.now.natural lexeme in
          let ends = rw (w.self-is, w.node-is) at c.in_ok-product.ensures in
          let both = ends state (literal place value) is (refl, lit≤ tt, signed value small) in
          rw w.cursor-is (
            without_product state,
            product_behind state (literal place value),
            both.0,
            (refl, refl),
            both.1,
            onward_number before _ place (sym c.place-place.ensures) w.advance-in-Number.ensures state value lexeme,
          )
      | in-Variable w ↦
          let text = w.in-Variable.text in
          let passed = passing state (name_limits (text.now, place)) in
          let lexeme = is_variable (front_of before).0 text (subst (λ it. IsHead (head it) (Variable text)) c.front.ensures w.in-Variable.ensures) in
          let ends = rw (w.self-is, w.node-is) at c.in_ok-product.ensures in
          let both = ends passed (variable (text.now, place)) (w.pass_name.ensures state is) (refl, lit≤ tt, (refl, refl)) in
          rw w.cursor-is (
            without_product passed,
            product_behind state (variable (text.now, place)),
            both.0,
            (refl, refl),
            both.1,
            onward_name before _ place (sym c.place-place.ensures) w.advance-in-Variable.ensures state text.now lexeme,
          )
    ]
