use denote.Enum.Bare.{same_false}
use Rattle.std.proofs.Common.{◌≡◌, false, sym, ap, ◌∙◌, nat_eq}
use Rattle.syntax.specs.contracts.token.Symbol.{the_type}
use Rattle.syntax.specs.Expected.{sign_number, is_taken, look_sign}
use Rattle.syntax.proofs.Moves.{refused}
use Rattle.syntax.proofs.Signs.{other_number}
use Rattle.syntax.proofs.cursor.Cursor.sign.Goals as goal

pub returns-in_default-clause-stops : goal.returns-in_default-clause-stops
returns-in_default-clause-stops c = λ behind.
    let other : nat_eq (sign_number c.args.sign) (sign_number c.in-Symbol.other) ≡ false =
    other_number _ _ (λ same. same_false the_type c.in-Symbol.other c.args.sign (sym c.if-eq.ensures) (sym same)) in
    refused _ behind _ (ap (look_sign c.args.sign) (sym c.in-Symbol.ensures) ∙ ap is_taken other)
