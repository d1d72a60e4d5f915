-- A stop that is passed on.
use Rattle.std.proofs.Common.{◌≡◌, arith}
use Rattle.std.specs.Prelude.{Result, IsErrAnd, IfErr}
use Rattle.syntax.specs.declared.stop.Stop.{Stop}

pub passed_on : {X : Type 0} (result : Result X Stop) (cause : Stop) (P : Stop → Type 0) → IsErrAnd result (λ other. other ≡ cause) → P cause → IfErr result P
passed_on result cause P is says = grind arith
