use denote.Enum.Bare.{same_false}
use Rattle.std.proofs.Common.{◌≡◌, false, refl, sym, ap, ◌∙◌, nat_eq, if◌then◌else◌}
use Rattle.syntax.specs.contracts.token.Symbol.{the_type}
use Rattle.syntax.specs.Expected.{sign_number, look_if, taken, left_out}
use Rattle.syntax.proofs.Moves.{skipped}
use Rattle.syntax.proofs.Signs.{other_number}
use Rattle.syntax.proofs.cursor.Cursor.takes.Goals as goal

pub returns-in_default-clause-taken : goal.returns-in_default-clause-taken
returns-in_default-clause-taken c =
    let other : nat_eq (sign_number c.args.sign) (sign_number c.in-Symbol.other) ≡ false =
    other_number _ _ (λ same. same_false the_type c.in-Symbol.other c.args.sign (sym c.if-eq.ensures) (sym same)) in (
      refl,
      λ first more looks behind. skipped first behind _
          (looks _ _ ∙ ap (λ lexeme. look_if c.args.sign lexeme more) (sym c.in-Symbol.ensures) ∙ ap (λ b. if b then taken more else left_out) other),
    )
