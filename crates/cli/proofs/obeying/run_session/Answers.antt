use Rattle.std.proofs.Common.{rules, ◌≡◌, false, ℕ, List, Option, subst}
use Rattle.commit.specs.Core.{is_halted}
use Rattle.pool.specs.Driver.{may_be_asked, may_spawn}
use Rattle.session.specs.Answers.{drive_of}
use Rattle.session.specs.Fails.{Answers}
use Rattle.report.specs.declared.sink.WriterSink.{WriterSink}
use Rattle.cli.proofs.Sinks.{same_target}
use Rattle.cli.proofs.obeying.run_session.Goals as goal

pub returns : goal.returns
returns g c =
    let target =
    same_target (λ (sink : WriterSink g.row.W.Denot). sink.out.ghost_name) (λ (sink : WriterSink g.row.W.Denot). sink.failed) (record { out = record { ref_ptr = c.args.out.ref_ptr; ghost_name = _; now = c.args.out.now }; failed = false }) c.session-went.new.out c.session-went.result.1 c.session-went.ensures.sink in
    let same : g.W.Write.contents c.session-went.new.out.out.now ≡ g.W.Write.contents c.out-1.given.0 = search (rules, target) in
    subst (λ (behind : Option (List ℕ)). Answers g.D.Disk (drive_of c.args.limit (may_be_asked g.P.Probe.may_stop c.args.driver.now) (may_spawn c.args.driver.now) (is_halted c.args.core))
    (g.R.Read.remaining c.args.input.now) (g.W.Write.contents c.args.out.now) behind c.args.core c.session-went.result.0 c.session-went.result.1) same c.session-went.ensures.answers
