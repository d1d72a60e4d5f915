-- A refused growth is reported as `NoMemory`.
use Rattle.std.proofs.Common.{◌≡◌, sym, subst, Result, Ok, Err, IfErr}
use Rattle.std.specs.Result.{IsErrAnd}
use Rattle.maps.specs.declared.error.InsertError.{InsertError}
use Rattle.maps.specs.declared.error.InsertError.TheVariants.{NoMemory}

pub refused_for_memory : {X : Type 0} (r : Result (Unit {0}) (InsertError X)) (P : InsertError X → Type 0) → IsErrAnd r (λ error. error ≡ NoMemory) → P NoMemory → IfErr r P
refused_for_memory (Ok done) P is holds = tt
refused_for_memory (Err error) P is holds = subst P (sym is) holds
