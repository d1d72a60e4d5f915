use Rattle.std.proofs.Common.{Bool, inl, inr, refl, subst}
use Rattle.pool.specs.Driver.{may_be_asked, may_spawn}
use Rattle.session.specs.Answers.{drive_of}
use Rattle.session.specs.Fails.{Answers}
use Rattle.cli.proofs.obeying.run.Goals as goal

pub returns-in-Ok : goal.returns-in-Ok
returns-in-Ok g c = inr (record {
  first = c.in-Ok.core;
  last = c.run_session-core.result.0;
  opened = record { opened = c.in-Ok.ensures.opened; finds = λ on. c.in-Ok.ensures.finds on; only_reads = λ on. c.in-Ok.ensures.only_reads on };
  answer = c.run_session-core.result.1;
  session = subst (λ (was_halted : Bool). Answers g.D.Disk (drive_of c.args.limit (may_be_asked g.P.Probe.may_stop c.args.driver.now) (may_spawn c.args.driver.now) was_halted)
      (g.R.Read.remaining c.args.input.now) (g.W.Write.contents c.args.out.now) (g.W.Write.contents c.run_session-core.new.out) c.in-Ok.core c.run_session-core.result.0 c.run_session-core.result.1) c.in-Ok.ensures.opened.working c.run_session-core.ensures;
  told = c.ran-outcome.ensures;
  disk = c.into_disk.ensures;
})

pub returns-in-Err : goal.returns-in-Err
returns-in-Err g c = inl (record {
  error = c.in-Err.refused.error;
  told = refl;
  of_opening = c.in-Err.ensures.errors;
  only_reads = λ on. c.in-Err.ensures.only_reads on;
  why = λ on. c.in-Err.ensures.tells on;
  causes = c.in-Err.ensures.causes;
  nothing_written = refl;
})
