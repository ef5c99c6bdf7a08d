use Rattle.std.proofs.Common.{◌≡◌, ◌<◌, ℕ, length}
use Rattle.teco_debugger.specs.Marks.{mark_of}
use Rattle.teco_debugger.specs.Moving.{is_any_there, is_spot}
use Rattle.teco_debugger.specs.Sources.{shown_string}
use Rattle.teco_debugger.proofs.marks.marks_of.Given as goal

abbrev pub invariant-loop-number : goal.invariant-loop-number
invariant-loop-number l = record {
  many : length l.all.items ≡ l.number;
  marked : (k : ℕ) → k < l.number → (place : ℕ) → mark_of l.all.items k place ≡ is_spot (is_any_there l.stops) k (shown_string l.sources k l.text) place;
}
