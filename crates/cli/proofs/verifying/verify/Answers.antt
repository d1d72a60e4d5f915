use Rattle.std.proofs.Common.{inl, inr, refl}
use Rattle.cli.proofs.verifying.verify.Goals as goal

pub returns-in-Ok : goal.returns-in-Ok
returns-in-Ok g c = inr (record {
  core = c.in-Ok.core;
  opened = record { opened = c.in-Ok.ensures.opened; finds = λ on. c.in-Ok.ensures.finds on; only_reads = λ on. c.in-Ok.ensures.only_reads on };
  answer = c.verified_by-answer.result;
  certified = c.verified_by-answer.ensures.certified;
  genuine = c.verified_by-answer.ensures.genuine;
  told = c.certified-outcome.ensures;
  disk = c.into_disk.ensures;
})

pub returns-in-Err : goal.returns-in-Err
returns-in-Err g c = inl (record {
  error = c.in-Err.refused.error;
  told = refl;
  of_opening = c.in-Err.ensures.errors;
  only_reads = λ on. c.in-Err.ensures.only_reads on;
  why = λ on. c.in-Err.ensures.tells on;
  causes = c.in-Err.ensures.causes;
  nothing_written = refl;
})
