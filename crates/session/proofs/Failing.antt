-- How what a session reads from and writes to is told, error by error.
use Rattle.std.proofs.Common.{◌≡◌, ◌∙◌, ap, refl, sym, subst, ℕ, Bool, true, false, List, Option, None, Result, Ok, Err, IfErr, append-nil, []}
use Rattle.std.specs.Borrow.{GName}
use Rattle.std.specs.Result.{is_err}
use Rattle.terms.specs.declared.event.Event.{Event}
use Rattle.terms.specs.Sets.{Facts}
use Rattle.graph.specs.Graph.{Graph}
use Rattle.report.specs.declared.error.ReportError.{ReportError}
use Rattle.report.specs.declared.error.ReportError.TheVariants as report
use Rattle.report.specs.Sinks.{HasJustFailed, StaysCalm, TellsFailure, TellsReport}
use Rattle.script.specs.declared.command.Command.{Command}
use Rattle.script.specs.declared.error.ScriptError.{ScriptError}
use Rattle.script.specs.declared.error.ScriptError.TheVariants as script
use Rattle.script.specs.Script.{IsRefused}
use Rattle.session.specs.declared.ending.Ending.{Ending}
use Rattle.session.specs.declared.error.SessionError.{SessionError}
use Rattle.session.specs.declared.error.SessionError.TheVariants.{Read, Write, Script, NoMemory}
use Rattle.session.specs.declared.reply.Reply.{Reply}
use Rattle.session.specs.declared.source.SourceError.{SourceError}
use Rattle.session.specs.declared.source.SourceError.TheVariants as source
use Rattle.session.specs.Answers.{Drive}
use Rattle.session.specs.Errors.{error_of_report, error_of_script, error_of_source}
use Rattle.session.specs.Fails.{AreWritten, FailsLater, FailsToRead, IsOfOutput, IsRefusedAs}
use Rattle.session.specs.Session.{AreReplies}
use Rattle.session.specs.Streams.{TellsReading, TellsSink, TellsSource}

-- ---- the source

-- a script that was read whole, or was refused
pub read_calm : {S T : Type 0} (has_failed : S → Bool) (old new : S) (g : Graph) (text : List ℕ) → has_failed new ≡ has_failed old → (result : Result T SessionError) → IfErr result (IsRefusedAs g text) → TellsSource has_failed old new result
read_calm has_failed old new g text calm (Ok done) refused = calm
read_calm has_failed old new g text calm (Err Read) refused = absurd refused
read_calm has_failed old new g text calm (Err Write) refused = absurd refused
read_calm has_failed old new g text calm (Err (Script number fault)) refused = calm
read_calm has_failed old new g text calm (Err NoMemory) refused = calm

-- a script that was not read
pub not_read : {S : Type 0} (A B : Type 0) (has_failed : S → Bool) (old new : S) (error : SourceError) → TellsReading {T = A} has_failed old new (Err error) → TellsSource {T = B} has_failed old new (Err (error_of_source error))
not_read A B has_failed old new source.Failed failed = failed
not_read A B has_failed old new source.NoMemory calm = calm

-- a script whose commands were begun
pub ran_calm :
    {S T : Type 0} (has_failed : S → Bool) (old new : S) (g : Graph) (drive : Drive) (X : Facts) (commands begun : List Command) (replies : List Reply) (events : List (List Event)) (before behind : Option (List ℕ)) → has_failed new ≡ has_failed old
    → (result : Result T SessionError) → IfErr result (FailsLater g drive X commands begun replies events before behind) → TellsSource has_failed old new result
ran_calm has_failed old new g drive X commands begun replies events before behind calm (Ok done) fails = calm
ran_calm has_failed old new g drive X commands begun replies events before behind calm (Err Read) fails = absurd fails
ran_calm has_failed old new g drive X commands begun replies events before behind calm (Err Write) fails = calm
ran_calm has_failed old new g drive X commands begun replies events before behind calm (Err (Script number fault)) fails = absurd fails
ran_calm has_failed old new g drive X commands begun replies events before behind calm (Err NoMemory) fails = calm

-- why a script was not read
pub fails_to_read : (g : Graph) (input : Option (List ℕ)) (error : SourceError) → FailsToRead g input (error_of_source error)
fails_to_read g input source.Failed = tt
fails_to_read g input source.NoMemory = tt

pub refused_as : (g : Graph) (text : List ℕ) (error : ScriptError) → IsRefused g text error → IsRefusedAs g text (error_of_script error)
refused_as g text (script.At number fault) is = is
refused_as g text script.NoMemory is = tt

-- ---- the sink

module _ {S : Type 0} (target : S → GName) (has_failed : S → Bool) where
  pub calm_where_ok : {T E : Type 0} (old new : S) (result : Result T E) → TellsFailure target has_failed old new result → false ≡ is_err result → StaysCalm target has_failed old new
  calm_where_ok old new (Ok done) tells ok = tells
  calm_where_ok old new (Err error) tells ok = absurd (cc)

  pub failed_where_err : {T E : Type 0} (old new : S) (result : Result T E) → TellsFailure target has_failed old new result → true ≡ is_err result → HasJustFailed target has_failed old new
  failed_where_err old new (Ok done) tells err = absurd (cc)
  failed_where_err old new (Err error) tells err = tells

  pub calm_twice : (old mid new : S) → StaysCalm target has_failed old mid → StaysCalm target has_failed mid new → StaysCalm target has_failed old new
  calm_twice old mid new one two = (two.0 ∙ one.0, two.1 ∙ one.1)

  pub then_failed : (old mid new : S) → StaysCalm target has_failed old mid → HasJustFailed target has_failed mid new → HasJustFailed target has_failed old new
  then_failed old mid new one two = (two.0 ∙ one.0, two.1)

  pub calm_then : {T : Type 0} (old mid new : S) → StaysCalm target has_failed old mid → (result : Result T SessionError) → TellsSink target has_failed mid new result → TellsSink target has_failed old new result
  calm_then old mid new one (Ok done) two = calm_twice old mid new one two
  calm_then old mid new one (Err Read) two = calm_twice old mid new one two
  calm_then old mid new one (Err Write) two = then_failed old mid new one two
  calm_then old mid new one (Err (Script number fault)) two = calm_twice old mid new one two
  calm_then old mid new one (Err NoMemory) two = calm_twice old mid new one two

  -- a report
  pub report_told : (A : Type 0) (old new : S) (error : ReportError) → TellsReport target has_failed {T = A} old new (Err error) → TellsSink {T = Ending} target has_failed old new (Err (error_of_report error))
  report_told A old new report.Write tells = tells
  report_told A old new report.NoMemory tells = tells

  -- no script was read
  pub unwritten_told : (g : Graph) (input : Option (List ℕ)) (sink : S) (error : SessionError) → FailsToRead g input error → TellsSink {T = Ending} target has_failed sink sink (Err error)
  unwritten_told g input sink Read fails = (refl, refl)
  unwritten_told g input sink Write fails = absurd fails
  unwritten_told g input sink (Script number fault) fails = (refl, refl)
  unwritten_told g input sink NoMemory fails = (refl, refl)

-- ---- errors of a report

pub of_output : (error : ReportError) → IsOfOutput (error_of_report error)
of_output report.Write = tt
of_output report.NoMemory = tt

is_memory : (error : ReportError) → ◌≡◌ {A = Result Ending SessionError} (Err (error_of_report error)) (Err NoMemory) → error ≡ report.NoMemory
is_memory report.Write same = absurd (cc)
is_memory report.NoMemory same = refl

pub memory_alone : {T : Type 0} {P : Type 0} (error : ReportError) → (◌≡◌ {A = Result T ReportError} (Err error) (Err report.NoMemory) → P) → ◌≡◌ {A = Result Ending SessionError} (Err (error_of_report error)) (Err NoMemory) → P
memory_alone error follows same = follows (ap (λ (e : ReportError). Err e) (is_memory error same))

-- all commands were answered, and the report was not written
pub closing_fails :
    (g : Graph) (drive : Drive) (X : Facts) (commands begun : List Command) (replies : List Reply) (events : List (List Event)) (ending : Ending) (before mid behind : Option (List ℕ)) → begun ≡ commands
    → AreWritten g drive X commands replies events ending before mid → (result : Result Ending SessionError) → IfErr result IsOfOutput → (result ≡ Err NoMemory → (ending.stop ≡ None) × (behind ≡ mid))
    → IfErr result (FailsLater g drive X commands begun replies events before behind)
closing_fails g drive X commands begun replies events ending before mid behind all written (Ok done) of_output memory = tt
closing_fails g drive X commands begun replies events ending before mid behind all written (Err Read) of_output memory = absurd of_output
closing_fails g drive X commands begun replies events ending before mid behind all written (Err Write) of_output memory =
    record { left = []; split = sym all ∙ sym (append-nil begun); answered = subst (λ (these : List Command). AreReplies g drive X these replies events) (sym all) written.answered }
closing_fails g drive X commands begun replies events ending before mid behind all written (Err (Script number fault)) of_output memory = absurd of_output
closing_fails g drive X commands begun replies events ending before mid behind all written (Err NoMemory) of_output memory =
    let it = memory refl in
    (all, (ending, it.0, subst (λ (after : Option (List ℕ)). AreWritten g drive X commands replies events ending before after) (sym it.1) written))
