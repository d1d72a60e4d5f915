use Rattle.std.proofs.Common.{◌∙◌, ap, length, sym}
use Rattle.commit.specs.Batch.{ends_said}
use Rattle.commit.proofs.Batches.{many_said}
use Rattle.commit.proofs.batch.Batch.len.Goals as goal

pub returns-clause-ends : goal.returns-clause-ends
returns-clause-ends c =
    c.len.ensures ∙ sym (many_said c.self.inside.tasks c.self.inside.outcomes.items c.self.invariant.0) ∙ ap (λ b. length (ends_said b)) c.self.view_is
