use Rattle.std.proofs.Common.{List, ℕ, Ok, Err, ap, inr, refl, sym, subst}
use Rattle.graph.specs.declared.limits.TheConstants.{MOST_TEXT}
use Rattle.session.specs.Fails.{IsAllOrTooLarge}
use Rattle.cli.specs.declared.outcome.Failure.{Failure}
use Rattle.cli.specs.declared.outcome.Outcome.TheVariants.{Failed}
use Rattle.cli.proofs.obeying.create.Goals as goal

pub returns-in-Ok-create : goal.returns-in-Ok-create
returns-in-Ok-create g c =
    let text = subst (λ (bytes : List ℕ). IsAllOrTooLarge MOST_TEXT (g.R.Read.remaining c.args.input.now) bytes) (sym c.as_slice.ensures.value) c.in-Ok.ensures.read in
    inr (c.as_slice.result.now, text, record { answer = Ok c.in-Ok-create.core; is = c.in-Ok-create.ensures.created; disk = c.into_disk.ensures; others = λ on. c.in-Ok-create.ensures.others on; causes = c.in-Ok-create.ensures.causes; told = c.created.ensures })

pub returns : goal.returns
returns g c =
    let text = subst (λ (bytes : List ℕ). IsAllOrTooLarge MOST_TEXT (g.R.Read.remaining c.args.input.now) bytes) (sym c.as_slice.ensures.value) c.in-Ok.ensures.read in
    inr (
      c.as_slice.result.now,
      text,
      record {
        answer = Err c.in-Err-create.refused;
        is = c.in-Err-create.ensures.refused;
        disk = refl;
        others = λ on. c.in-Err-create.ensures.others on;
        causes = c.in-Err-create.ensures.causes;
        told = (ap (λ (why : Failure). Failed why) c.of_creation.ensures, refl);
      },
    )
