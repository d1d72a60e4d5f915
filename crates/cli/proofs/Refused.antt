-- The error of a refusal, in a result of another type.
use Rattle.std.proofs.Common.{◌≡◌, ◌⊎◌, inl, inr, ℕ, Err, ap}
use Rattle.std.specs.Prelude.{IsErrOf}
use Rattle.disk.specs.Storage.{ReportsAs}
use Rattle.disk.specs.declared.storage.Disk.{Ghosts}
use Rattle.disk.specs.Time.{Contents}
use Rattle.vault.specs.Opened.{TellsWhy}
use Rattle.vault.specs.declared.error.VaultError.{VaultError}
use Rattle.vault.specs.declared.error.VaultError.TheVariants.{Device, NoMemory}

same_error : {S : Type 0} (error fault : VaultError) → IsErrOf {T = S} (Err error) fault → error ≡ fault
same_error error fault is = cc

other_error : {S T : Type 0} (error fault : VaultError) → IsErrOf {T = S} (Err error) fault → IsErrOf {T = T} (Err error) fault
other_error {S} {T} error fault is = ap (λ (it : VaultError). Err it) (same_error {S = S} error fault is)

pub why_carried : {S T : Type 0} (contents : Contents) (erred : Type 0) (error : VaultError) → TellsWhy {T = S} contents erred (Err error) → TellsWhy {T = T} contents erred (Err error)
why_carried {S} {T} contents erred error why = record { nothing = why.nothing; heads = λ fault it. carried fault (why.heads fault it); cause = why.cause }
  where
    carried : (fault : VaultError) → IsErrOf {T = S} (Err error) fault ⊎ erred → IsErrOf {T = T} (Err error) fault ⊎ erred
    carried fault (inl is) = inl (other_error {S = S} {T = T} error fault is)
    carried fault (inr it) = inr it

pub causes_carried : {D S T : Type 0} (storage : Ghosts D) (old new : D) (error : VaultError) → ReportsAs {T = S} storage Device NoMemory old new (Err error)
    → ReportsAs {T = T} storage Device NoMemory old new (Err error)
causes_carried {D} {S} {T} storage old new error causes = record {
  device = (λ is. causes.device.0 (other_error {S = T} {T = S} error Device is), λ failed. other_error {S = S} {T = T} error Device (causes.device.1 failed));
  refused = λ changed. other_error {S = S} {T = T} error NoMemory (causes.refused changed);
  later = causes.later;
}
