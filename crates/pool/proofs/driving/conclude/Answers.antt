use Rattle.std.proofs.Common.{inr, false, subst, ℕ}
use Rattle.commit.specs.Runs.{RunsWithin}
use Rattle.pool.proofs.Teams.{no_refusal}
use Rattle.pool.proofs.driving.conclude.Goals as goal

pub returns-else-causes-4-clause-concludes : goal.returns-else-causes-4-clause-concludes
returns-else-causes-4-clause-concludes g c = record {
  verdict = inr (
    c.in-Ok-Working.ensures.working,
    subst (λ (n : ℕ). RunsWithin g.D.Disk false false c.args.core c.run_with.result.0 n c.run_with.result.1) c.allowance-left.ensures
        (c.run_with.ensures.runs c.in-Ok-Working.ensures.working),
  );
  first = λ _. no_refusal c.args.causes c.run_with.result.1 c.if-causes.false c.if-causes-2.false c.if-causes-3.false;
}
