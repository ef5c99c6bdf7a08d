-- What is left of the options of a run.
use Rattle.std.specs.Prelude.{ℕ}
use Rattle.std.specs.Borrow.{MutBor}

-- the options as a run leaves them: the limit, and who may ask it to stop
abbrev pub Left : Type 0 → Type 0
Left S = ℕ × (MutBor S × Unit {0})

-- who may ask it to stop, as the run leaves him
abbrev pub stop_left : {S : Type 0} → Left S → S
stop_left left = left.1.0.now
