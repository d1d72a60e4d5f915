-- A sink after a call: it writes to what it wrote to, and tells whether it has failed.
use Rattle.std.specs.Prelude.{◌≡◌, Bool, true, Result, Ok, Err}
use Rattle.std.specs.Borrow.{GName}
use Rattle.report.specs.declared.error.ReportError.{ReportError}
use Rattle.report.specs.declared.error.ReportError.TheVariants.{NoMemory, Write}

module _ {S : Type 0} (target : S → GName) (has_failed : S → Bool) where
  -- it did not return an error
  abbrev pub StaysCalm : S → S → Type 0
  StaysCalm old new = (target new ≡ target old) × (has_failed new ≡ has_failed old)

  -- it returned an error
  abbrev pub HasJustFailed : S → S → Type 0
  HasJustFailed old new = (target new ≡ target old) × (has_failed new ≡ true)

  -- each error is an error of the sink
  abbrev pub TellsFailure : {T E : Type 0} → S → S → Result T E → Type 0
  TellsFailure old new (Ok done) = StaysCalm old new
  TellsFailure old new (Err error) = HasJustFailed old new

  -- of a report: `Write` is the sink's error, and no other is
  abbrev pub TellsReport : {T : Type 0} → S → S → Result T ReportError → Type 0
  TellsReport old new (Ok done) = StaysCalm old new
  TellsReport old new (Err NoMemory) = StaysCalm old new
  TellsReport old new (Err Write) = HasJustFailed old new
