-- A sink after a session.
use Rattle.std.proofs.Common.{◌≡◌, Bool, Result, Ok, Err}
use Rattle.std.specs.Borrow.{GName}
use Rattle.session.specs.declared.error.SessionError.{SessionError}
use Rattle.session.specs.declared.error.SessionError.TheVariants.{Read, Write, Script, NoMemory}
use Rattle.session.specs.Streams.{TellsSink}

-- it writes to what it wrote to
pub same_target : {S T : Type 0} (target : S → GName) (has_failed : S → Bool) (old new : S) (result : Result T SessionError) → TellsSink target has_failed old new result → target new ≡ target old
same_target target has_failed old new (Ok done) tells = tells.0
same_target target has_failed old new (Err Read) tells = tells.0
same_target target has_failed old new (Err Write) tells = tells.0
same_target target has_failed old new (Err (Script number fault)) tells = tells.0
same_target target has_failed old new (Err NoMemory) tells = tells.0
