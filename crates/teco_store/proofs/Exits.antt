-- What a call leaves that is refused.
use Rattle.std.proofs.Common.{Result, Ok, Err}
use Rattle.std.specs.Result.{OnErr}

pub leaves_err : {T E : Type 0} (r : Result T E) (P : Type 0) → P → OnErr r P
leaves_err (Ok x) P p = tt
leaves_err (Err e) P p = p
