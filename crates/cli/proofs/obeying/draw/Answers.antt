use Rattle.std.proofs.Common.{List, ℕ, ap, inl, inr, refl, sym, subst}
use Rattle.graph.specs.declared.limits.TheConstants.{MOST_TEXT}
use Rattle.session.specs.Fails.{IsAllOrTooLarge}
use Rattle.cli.specs.declared.outcome.Failure.{Failure}
use Rattle.cli.specs.declared.outcome.Outcome.TheVariants.{Failed}
use Rattle.cli.proofs.obeying.draw.Goals as goal

pub returns-in-Ok-parse : goal.returns-in-Ok-parse
returns-in-Ok-parse g c =
    let text = subst (λ (bytes : List ℕ). IsAllOrTooLarge MOST_TEXT (g.R.Read.remaining c.args.input.now) bytes) (sym c.as_slice.ensures.value) c.in-Ok.ensures.read in
    inr (c.as_slice.result.now, text, inl (c.in-Ok-parse.graph, c.in-Ok-parse.ensures.reads, c.drawn.ensures))

pub returns : goal.returns
returns g c =
    let text = subst (λ (bytes : List ℕ). IsAllOrTooLarge MOST_TEXT (g.R.Read.remaining c.args.input.now) bytes) (sym c.as_slice.ensures.value) c.in-Ok.ensures.read in
    inr (c.as_slice.result.now, text, inr (c.in-Err-parse.fault, c.in-Err-parse.ensures.cause, ap (λ (why : Failure). Failed why) c.of_creation.ensures, refl))
