use Rattle.std.proofs.Common.{◌+◌, List, ℕ, refl, subst, sym}
use Rattle.script.specs.declared.parser.TheConstants.{MOST_BYTES}
use Rattle.session.specs.declared.error.SessionError.{SessionError}
use Rattle.session.specs.Fails.{FailsToRead}
use Rattle.session.specs.Streams.{IsTaken, TellsSource}
use Rattle.std.specs.Prelude.{Err, Vec}
use Rattle.std.specs.declared.alloc.Global.{Global}
use Rattle.script.specs.declared.command.Command.{Command}
use Rattle.session.proofs.Failing.{fails_to_read, not_read, read_calm}
use Rattle.session.proofs.Taken.{all, enough, fails, where_it_is_err, where_it_is_ok}
use Rattle.session.proofs.sessions.read_script.Goals as goal

pub returns-in-Ok-clause-read : goal.returns-in-Ok-clause-read
returns-in-Ok-clause-read g c =
    let known = g.S.Source.remaining c.args.input.now in
    let taken = subst (λ (text : List ℕ). IsTaken known (MOST_BYTES + 1) text) (sym c.as_slice.ensures.value) c.in-Ok.ensures.read in
    where_it_is_ok c.parsed.result (λ commands is. (c.as_slice.result.now, all known _ c.as_slice.result.now refl taken is.small, is)) c.parsed.ensures.read

pub returns-in-Ok-clause-fails : goal.returns-in-Ok-clause-fails
returns-in-Ok-clause-fails g c =
    let known = g.S.Source.remaining c.args.input.now in
    let taken = subst (λ (text : List ℕ). IsTaken known (MOST_BYTES + 1) text) (sym c.as_slice.ensures.value) c.in-Ok.ensures.read in
    where_it_is_err c.parsed.result (λ error is. fails c.args.graph.now known c.as_slice.result.now error (enough MOST_BYTES known _ c.as_slice.result.now refl taken) is) c.parsed.ensures.refused

pub returns-in-Ok-clause-source : goal.returns-in-Ok-clause-source
returns-in-Ok-clause-source g c = read_calm g.S.Source.has_failed c.args.input.now c.read_up_to.new.self c.args.graph.now c.as_slice.result.now c.in-Ok.ensures.fails c.parsed.result c.parsed.ensures.refused

pub returns-in-Err-clause-fails : goal.returns-in-Err-clause-fails
returns-in-Err-clause-fails g c = subst (FailsToRead c.args.graph.now (g.S.Source.remaining c.args.input.now)) (sym c.of_source.ensures) (fails_to_read c.args.graph.now (g.S.Source.remaining c.args.input.now) c.in-Err.error)

pub returns-in-Err-clause-source : goal.returns-in-Err-clause-source
returns-in-Err-clause-source g c =
    subst (λ (error : SessionError). TellsSource {T = Vec Command Global} g.S.Source.has_failed c.args.input.now c.read_up_to.new.self (Err error)) (sym c.of_source.ensures)
    (not_read (Vec ℕ Global) (Vec Command Global) g.S.Source.has_failed c.args.input.now c.read_up_to.new.self c.in-Err.error c.in-Err.ensures.fails)
