-- What a session reads from and writes to: what was read, and whether either has failed.
use Rattle.std.specs.Prelude.{◌≡◌, ℕ, Bool, true, List, take, Option, IfSome, Result, Ok, Err}
use Rattle.std.specs.Borrow.{GName}
use Rattle.std.specs.Option.{option_map}
use Rattle.report.specs.Sinks.{HasJustFailed, StaysCalm}
use Rattle.session.specs.declared.error.SessionError.{SessionError}
use Rattle.session.specs.declared.error.SessionError.TheVariants.{Read, Write, Script, NoMemory}
use Rattle.session.specs.declared.source.SourceError.{SourceError}
use Rattle.session.specs.declared.source.SourceError.TheVariants as source

-- this text was read, of all that there was or of the first so many bytes of it
abbrev pub IsTaken : Option (List ℕ) → ℕ → List ℕ → Type 0
IsTaken known most text = IfSome (option_map (take most) known) (λ bytes. text ≡ bytes)

-- ---- failures

-- the result of a reading: `Failed` is the source's error, and no other is
abbrev pub TellsReading : {S T : Type 0} → (has_failed : S → Bool) → S → S → Result T SourceError → Type 0
TellsReading has_failed old new (Ok text) = has_failed new ≡ has_failed old
TellsReading has_failed old new (Err source.NoMemory) = has_failed new ≡ has_failed old
TellsReading has_failed old new (Err source.Failed) = has_failed new ≡ true

-- the result of a session: `Read` is the source's error, and no other is
abbrev pub TellsSource : {S T : Type 0} → (has_failed : S → Bool) → S → S → Result T SessionError → Type 0
TellsSource has_failed old new (Ok done) = has_failed new ≡ has_failed old
TellsSource has_failed old new (Err Read) = has_failed new ≡ true
TellsSource has_failed old new (Err Write) = has_failed new ≡ has_failed old
TellsSource has_failed old new (Err (Script number fault)) = has_failed new ≡ has_failed old
TellsSource has_failed old new (Err NoMemory) = has_failed new ≡ has_failed old

-- `Write` is the sink's error, and no other is; and the sink writes to what it wrote to
abbrev pub TellsSink : {S T : Type 0} → (target : S → GName) → (has_failed : S → Bool) → S → S → Result T SessionError → Type 0
TellsSink target has_failed old new (Ok done) = StaysCalm target has_failed old new
TellsSink target has_failed old new (Err Read) = StaysCalm target has_failed old new
TellsSink target has_failed old new (Err Write) = HasJustFailed target has_failed old new
TellsSink target has_failed old new (Err (Script number fault)) = StaysCalm target has_failed old new
TellsSink target has_failed old new (Err NoMemory) = StaysCalm target has_failed old new
