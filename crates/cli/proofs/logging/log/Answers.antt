use Rattle.disk.specs.Storage.{Errs}
use Rattle.std.proofs.Common.{IsTrue, inl, inr, refl}
use Rattle.vault.specs.Opened.{contents_of}
use Rattle.cli.proofs.LogTold.{logged_store}
use Rattle.cli.proofs.Refused.{causes_carried, why_carried}
use Rattle.cli.proofs.logging.log.Goals as goal

pub returns-in-Ok : goal.returns-in-Ok
returns-in-Ok g c = inr (record {
  only_reads = λ on. c.in-Ok.ensures.only_reads on;
  told = logged_store (IsTrue g.D.Disk.is_honest) (contents_of (g.D.Disk.files c.args.disk)) c.in-Ok.live (g.W.Write.contents c.args.out.now) (g.W.Write.contents c.log_side-outcome.new.out) c.log_side-outcome.result
      (λ on. c.in-Ok.ensures.found on) c.log_side-outcome.ensures;
})

pub returns-in-Err : goal.returns-in-Err
returns-in-Err g c = inl (record {
  error = c.in-Err.error;
  told = refl;
  of_opening = c.in-Err.ensures.errors;
  only_reads = λ on. c.in-Err.ensures.only_reads on;
  why = λ on. why_carried (contents_of (g.D.Disk.files c.args.disk)) (Errs g.D.Disk c.args.disk c.read_live.new.disk) c.in-Err.error (c.in-Err.ensures.tells on);
  causes = causes_carried g.D.Disk c.args.disk c.read_live.new.disk c.in-Err.error c.in-Err.ensures.causes;
  nothing_written = refl;
})
