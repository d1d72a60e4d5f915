-- An error that a `?` hands on.
use Rattle.std.proofs.Common.{◌≡◌, sym, subst}
use Rattle.std.specs.Prelude.{Result, Ok, Err, IsErrAnd, IfErr}
use Rattle.vault.specs.declared.error.VaultError.{VaultError}

-- what holds of the error holds of that in the result
pub handed_on : {T : Type 0} (P : VaultError → Type 0) (error : VaultError) (result : Result T VaultError) → IsErrAnd result (λ other. other ≡ error) → P error → IfErr result P
handed_on P error (Ok x) is holds = tt
handed_on P error (Err other) is holds = subst P (sym is) holds
