use denote.Enum.Bare.{same_false}
use Rattle.std.proofs.Common.{◌≡◌, false, sym, ap, ◌∙◌, nat_eq, if◌then◌else◌}
use Rattle.syntax.specs.contracts.token.Symbol.{the_type}
use Rattle.syntax.specs.declared.token.Symbol.TheVariants as sign
use Rattle.syntax.specs.Expected.{sign_number, taken, wrong}
use Rattle.syntax.specs.StepNames.{look_on}
use Rattle.syntax.proofs.Moves.{refused}
use Rattle.syntax.proofs.Signs.{other_number}
use Rattle.syntax.proofs.step_names.goes_on.Goals as goal

pub returns-clause-stops : goal.returns-clause-stops
returns-clause-stops c = λ first next end may_come behind.
    let it = c.in-Symbol.sign in
    let no_comma : nat_eq (sign_number sign.Comma) (sign_number it) ≡ false = other_number _ _ (λ same. same_false the_type it sign.Comma (sym c.if-eq.ensures) (sym same)) in
    let other : nat_eq (sign_number c.args.close) (sign_number it) ≡ false = other_number _ _ (λ same. same_false the_type it c.args.close (sym c.if-eq-2.ensures) (sym same)) in
    refused first behind _
    (may_come _ _ ∙ ap (look_on c.args.close next end) (sym c.in-Symbol.ensures)
    ∙ ap (λ b. if b then taken next else if nat_eq (sign_number c.args.close) (sign_number it) then taken end else wrong) no_comma
    ∙ ap (λ b. if b then taken end else wrong) other)
