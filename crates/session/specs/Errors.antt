-- What the errors of the parts of a session become.
use Rattle.std.specs.declared.io.ErrorKind.{ErrorKind}
use Rattle.std.specs.declared.io.ErrorKind.TheVariants as kind
use Rattle.report.specs.declared.error.ReportError.{ReportError}
use Rattle.report.specs.declared.error.ReportError.TheVariants as report
use Rattle.script.specs.declared.error.ScriptError.{ScriptError}
use Rattle.script.specs.declared.error.ScriptError.TheVariants as script
use Rattle.session.specs.declared.error.SessionError.{SessionError}
use Rattle.session.specs.declared.error.SessionError.TheVariants.{Read, Write, Script, NoMemory}
use Rattle.session.specs.declared.source.SourceError.{SourceError}
use Rattle.session.specs.declared.source.SourceError.TheVariants as source

-- a reader's error, by its kind
abbrev pub error_of_reader : ErrorKind → SourceError
error_of_reader kind.OutOfMemory = source.NoMemory
error_of_reader _ = source.Failed

-- that of a source, of a script, and of a report
abbrev pub error_of_source : SourceError → SessionError
error_of_source source.Failed = Read
error_of_source source.NoMemory = NoMemory

abbrev pub error_of_script : ScriptError → SessionError
error_of_script (script.At number fault) = Script number fault
error_of_script script.NoMemory = NoMemory

abbrev pub error_of_report : ReportError → SessionError
error_of_report report.Write = Write
error_of_report report.NoMemory = NoMemory
