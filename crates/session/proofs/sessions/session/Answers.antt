use Rattle.std.proofs.Common.{◌∙◌}
use Rattle.commit.specs.Core.{is_halted}
use Rattle.pool.specs.Driver.{may_be_asked, may_spawn}
use Rattle.session.specs.Answers.{drive_of}
use Rattle.session.proofs.Failing.{ran_calm, unwritten_told}
use Rattle.session.proofs.Scripted.{answered, unread}
use Rattle.session.proofs.sessions.session.Goals as goal

pub returns-in-Ok-clause-answers : goal.returns-in-Ok-clause-answers
returns-in-Ok-clause-answers g c =
    answered g.D.Disk (drive_of c.args.limit (may_be_asked g.P.Probe.may_stop c.args.driver.now) (may_spawn c.args.driver.now) (is_halted c.args.core)) (g.S.Source.remaining c.args.input.now) (g.O.Sink.contents c.args.out.now) (g.O.Sink.contents c.run_script.new.out) c.args.core c.run_script.result.0 c.deref.result.now (c.deref.ensures ∙ c.graph.ensures)
    c.run_script.result.1 c.in-Ok.commands.items c.as_slice.result.now c.as_slice.ensures.value c.in-Ok.ensures.read c.run_script.ensures.answers

pub returns-in-Err-clause-answers : goal.returns-in-Err-clause-answers
returns-in-Err-clause-answers g c =
    unread g.D.Disk (drive_of c.args.limit (may_be_asked g.P.Probe.may_stop c.args.driver.now) (may_spawn c.args.driver.now) (is_halted c.args.core)) (g.S.Source.remaining c.args.input.now) (g.O.Sink.contents c.args.out.now) (g.O.Sink.contents c.args.out.now) c.args.core c.args.core c.deref.result.now (c.deref.ensures ∙ c.graph.ensures) c.in-Err.error c.in-Err.ensures.fails

pub returns-in-Ok-clause-source : goal.returns-in-Ok-clause-source
returns-in-Ok-clause-source g c =
    let it = c.run_script.ensures.answers in
    ran_calm g.S.Source.has_failed c.args.input.now c.read_script.new.input _ _ _ _ it.begun it.replies it.events _ _ c.in-Ok.ensures.source c.run_script.result.1 it.fails

pub returns-in-Err-clause-sink : goal.returns-in-Err-clause-sink
returns-in-Err-clause-sink g c = unwritten_told g.O.Sink.target g.O.Sink.has_failed c.deref.result.now (g.S.Source.remaining c.args.input.now) c.args.out.now c.in-Err.error c.in-Err.ensures.fails
