-- The result of a last call, which is returned as it is.
use Rattle.std.proofs.Common.{arith}
use Rattle.std.specs.Prelude.{Result, IfOk, IfErr}

pub as_ok : {X E : Type 0} (result : Result X E) (P Q : X → Type 0) → IfOk result P → ((value : X) → P value → Q value) → IfOk result Q
as_ok result P Q says follows = grind arith

pub as_err : {X E : Type 0} (result : Result X E) (P Q : E → Type 0) → IfErr result P → ((error : E) → P error → Q error) → IfErr result Q
as_err result P Q says follows = grind arith
