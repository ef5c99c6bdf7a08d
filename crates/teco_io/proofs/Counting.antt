-- Counts of failures, one call after another.
use Rattle.std.proofs.Common.{subst, refl, Bool, false, Option, None, Some, ℕ}
use Rattle.teco_io.specs.Sink.{Counts}

pub Counts-kept : (old : Option ℕ) → Counts old old false
Counts-kept None = tt
Counts-kept (Some n) = refl

pub Counts-trans : (a b c : Option ℕ) (failed : Bool) → Counts a b false → Counts b c failed → Counts a c failed
Counts-trans None b c failed p q = tt
Counts-trans (Some n) b c failed p q = subst (λ x. Counts x c failed) p q
