use Rattle.std.proofs.Common.{subst}
use Rattle.std.specs.Prelude.{Result}
use Rattle.session.specs.declared.ending.Ending.{Ending}
use Rattle.session.specs.declared.error.SessionError.{SessionError}
use Rattle.session.specs.Fails.{AnswersLines}
use Rattle.session.specs.Streams.{TellsSink}
use Rattle.session.proofs.Failing.{calm_then}
use Rattle.session.proofs.Reporting.{reported, unreported}
use Rattle.session.proofs.closing.close.Goals as goal

pub returns-in-Ok-clause-answers : goal.returns-in-Ok-clause-answers
returns-in-Ok-clause-answers g c drive commands first begun lines =
    let before = g.O.Sink.contents first in
    let here = g.O.Sink.contents c.args.out.now in
    reported g.D.Disk drive commands before here (g.O.Sink.contents c.with_report.new.out) begun c.args.core.now c.in-Ok.ending c.with_report.result
    (subst (λ (r : Result Ending SessionError). AnswersLines g.D.Disk drive commands before here begun c.args.core.now r) c.in-Ok.is lines) c.with_report.ensures.closed c.with_report.ensures.err c.with_report.ensures.unwritten

pub returns-in-Err-clause-answers : goal.returns-in-Err-clause-answers
returns-in-Err-clause-answers g c drive commands first begun lines =
    let before = g.O.Sink.contents first in
    let here = g.O.Sink.contents c.args.out.now in
    unreported g.D.Disk drive commands before here here begun c.args.core.now c.in-Err.error (subst (λ (r : Result Ending SessionError). AnswersLines g.D.Disk drive commands before here begun c.args.core.now r) c.in-Err.is lines)

pub returns-in-Ok-clause-sink : goal.returns-in-Ok-clause-sink
returns-in-Ok-clause-sink g c first tells =
    calm_then g.O.Sink.target g.O.Sink.has_failed first c.args.out.now c.with_report.new.out (subst (λ (r : Result Ending SessionError). TellsSink g.O.Sink.target g.O.Sink.has_failed first c.args.out.now r) c.in-Ok.is tells) c.with_report.result c.with_report.ensures.sink

pub returns-in-Err-clause-sink : goal.returns-in-Err-clause-sink
returns-in-Err-clause-sink g c first tells = subst (λ (r : Result Ending SessionError). TellsSink g.O.Sink.target g.O.Sink.has_failed first c.args.out.now r) c.in-Err.is tells
