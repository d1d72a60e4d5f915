use Rattle.std.proofs.Common.{refl, subst, sym}
use Rattle.std.specs.Prelude.{Result}
use Rattle.commit.specs.Core.{is_halted}
use Rattle.pool.specs.Driver.{may_be_asked, may_spawn}
use Rattle.session.specs.declared.ending.Ending.{Ending}
use Rattle.session.specs.declared.error.SessionError.{SessionError}
use Rattle.session.specs.Answers.{drive_of}
use Rattle.session.specs.Fails.{AnswersLines}
use Rattle.session.specs.Streams.{TellsSink}
use Rattle.session.proofs.Standing.{stands_first}
use Rattle.session.proofs.commands.run_script.Goals as goal

pub loop-core-init : goal.loop-core-init
loop-core-init g c =
    let core = c.args.core in
    let new = c.new-progress in
    record {
      idle = c.requires.idle;
      stands = stands_first g.D.Disk g.O.Sink.target g.O.Sink.has_failed g.O.Sink.contents (λ on. (c.stores_go_on.ensures.rest on).commits) (λ on. (c.stores_go_on.ensures.gates on).rest) (drive_of c.args.limit (may_be_asked g.P.Probe.may_stop c.args.driver.now) (may_spawn c.args.driver.now) (is_halted c.args.core)) c.args.commands.now new.result.left.now c.args.out.now core new.result.ending new.result.failed
          c.is_kept.ensures.kept c.is_kept.ensures.settled refl new.ensures.left new.ensures.ending new.ensures.failed;
    }

pub loop-core-preserved : goal.loop-core-preserved
loop-core-preserved g c =
    let it = c.loop-core.invariant in
    record {
      idle = c.run-next.ensures.idle;
      stands = c.answer_run.ensures.answers c.args.limit (may_be_asked g.P.Probe.may_stop c.args.driver.now) (may_spawn c.args.driver.now) (is_halted c.args.core) c.args.commands.now c.args.out.now c.args.core c.reach_run.new.core
          (c.loop-core-test.ensures.reaches (drive_of c.args.limit (may_be_asked g.P.Probe.may_stop c.args.driver.now) (may_spawn c.args.driver.now) (is_halted c.args.core)) c.args.commands.now c.args.out.now c.args.core it.stands)
          (record { halted = c.run-next.ensures.halted; runs = c.run-next.ensures.runs });
    }

pub returns-clause-answers : goal.returns-clause-answers
returns-clause-answers g c =
    let over = c.loop-core-test.ensures.reaches (drive_of c.args.limit (may_be_asked g.P.Probe.may_stop c.args.driver.now) (may_spawn c.args.driver.now) (is_halted c.args.core)) c.args.commands.now c.args.out.now c.args.core c.loop-core.invariant.stands in
    c.close-ended.ensures.answers (drive_of c.args.limit (may_be_asked g.P.Probe.may_stop c.args.driver.now) (may_spawn c.args.driver.now) (is_halted c.args.core)) c.args.commands.now c.args.out.now c.args.core
    (subst (λ (r : Result Ending SessionError). AnswersLines g.D.Disk (drive_of c.args.limit (may_be_asked g.P.Probe.may_stop c.args.driver.now) (may_spawn c.args.driver.now) (is_halted c.args.core)) c.args.commands.now (g.O.Sink.contents c.args.out.now) (g.O.Sink.contents c.reach_run.new.out) c.args.core c.reach_run.new.core r) (sym c.went.ensures) over.0)

pub returns-clause-sink : goal.returns-clause-sink
returns-clause-sink g c =
    let over = c.loop-core-test.ensures.reaches (drive_of c.args.limit (may_be_asked g.P.Probe.may_stop c.args.driver.now) (may_spawn c.args.driver.now) (is_halted c.args.core)) c.args.commands.now c.args.out.now c.args.core c.loop-core.invariant.stands in
    c.close-ended.ensures.sink c.args.out.now (subst (λ (r : Result Ending SessionError). TellsSink g.O.Sink.target g.O.Sink.has_failed c.args.out.now c.reach_run.new.out r) (sym c.went.ensures) over.1)
