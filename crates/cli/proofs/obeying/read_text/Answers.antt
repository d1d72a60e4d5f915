use Rattle.std.proofs.Common.{ap, refl, subst, List, ℕ, Option, MutBor}
use Rattle.graph.specs.declared.limits.TheConstants.{MOST_TEXT}
use Rattle.session.specs.Streams.{IsTaken}
use Rattle.session.proofs.Taken.{enough, is_taken}
use Rattle.cli.proofs.obeying.read_text.Goals as goal

pub returns-in-Ok-clause-read : goal.returns-in-Ok-clause-read
returns-in-Ok-clause-read g c =
    let known = g.R.Read.remaining c.args.input.now in
    enough MOST_TEXT known c.take.result.limit c.read_to_end.new.buf.items c.take.ensures.limit
    (subst (λ (o : Option (List ℕ)). IsTaken o c.take.result.limit c.read_to_end.new.buf.items) (ap (λ (input : MutBor g.row.R.Denot). g.R.Read.remaining input.now) c.take.ensures.inner)
    (is_taken _ c.take.result.limit c.read_to_end.new.buf.items c.new-text.result.items c.read_to_end.new.buf.items c.in-Ok.ensures.bytes c.new-text.ensures.items refl))
