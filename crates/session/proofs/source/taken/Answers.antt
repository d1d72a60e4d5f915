use Rattle.std.proofs.Common.{ap, refl, subst, List, ℕ, Option, MutBor}
use Rattle.session.specs.Streams.{IsTaken}
use Rattle.session.proofs.Taken.{is_taken}
use Rattle.session.proofs.source.taken.Goals as goal

pub returns-in-Ok : goal.returns-in-Ok
returns-in-Ok g c =
    subst (λ (most : ℕ). IsTaken (g.R.Read.remaining c.args.input.now) most c.read_to_end.new.buf.items) c.take.ensures.limit
    (subst (λ (o : Option (List ℕ)). IsTaken o c.take.result.limit c.read_to_end.new.buf.items) (ap (λ (input : MutBor g.row.R.Denot). g.R.Read.remaining input.now) c.take.ensures.inner)
    (is_taken _ c.take.result.limit c.read_to_end.new.buf.items c.new-text.result.items c.read_to_end.new.buf.items c.in-Ok.ensures.bytes c.new-text.ensures.items refl))
