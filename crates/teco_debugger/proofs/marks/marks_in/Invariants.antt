use Rattle.std.proofs.Common.{◌≡◌, ◌<◌, ℕ, false, get_or, length}
use Rattle.teco_messages.specs.Spot.{spot_of}
use Rattle.teco_debugger.specs.Moving.{is_any_there}
use Rattle.teco_debugger.proofs.marks.marks_in.Given as goal

abbrev pub invariant-loop-byte : goal.invariant-loop-byte
invariant-loop-byte l = record {
  here : l.here ≡ spot_of l.text l.byte-index;
  many : length l.marks.items ≡ l.byte-index;
  marked : (k : ℕ) → k < l.byte-index → get_or l.marks.items k false ≡ is_any_there l.stops l.number (spot_of l.text k);
}
