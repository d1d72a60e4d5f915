-- What holds in any case also holds when an error is returned.
use Rattle.std.proofs.Common.{Result, Ok, Err, OnErr}

pub on_err : {T E P : Type 0} (r : Result T E) → P → OnErr r P
on_err (Ok done) holds = tt
on_err (Err error) holds = holds
