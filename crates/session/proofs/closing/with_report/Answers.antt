use Rattle.std.proofs.Common.{subst, sym}
use Rattle.std.specs.Prelude.{Err}
use Rattle.session.specs.declared.ending.Ending.{Ending}
use Rattle.session.specs.declared.error.SessionError.{SessionError}
use Rattle.session.specs.Fails.{IsOfOutput}
use Rattle.session.specs.Streams.{TellsSink}
use Rattle.session.proofs.Failing.{of_output, report_told}
use Rattle.session.proofs.closing.with_report.Goals as goal

pub returns-in-Err-clause-err : goal.returns-in-Err-clause-err
returns-in-Err-clause-err g c = subst IsOfOutput (sym c.of_report.ensures) (of_output c.in-Err.error)

pub returns-in-Err-clause-sink : goal.returns-in-Err-clause-sink
returns-in-Err-clause-sink g c =
    subst (λ (error : SessionError). TellsSink {T = Ending} g.O.Sink.target g.O.Sink.has_failed c.args.out.now c.send_report.new.out (Err error)) (sym c.of_report.ensures)
    (report_told g.O.Sink.target g.O.Sink.has_failed (Unit {0}) c.args.out.now c.send_report.new.out c.in-Err.error c.in-Err.ensures.fails)
