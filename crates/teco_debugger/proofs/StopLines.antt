-- The lines of the places to stop at, one after the other.
use Rattle.std.proofs.Common.{◌≡◌, ℕ, ◌+◌, ◌++◌, List, ap, sym, ◌∙◌, append_assoc, append-nil, add-one}
use Rattle.std.specs.List.{slice_get}
use Rattle.teco_debugger.specs.Breaks.{stop_line, stop_lines}
use Rattle.teco_debugger.specs.declared.sources.SourceText.{SourceText}
use Rattle.teco_debugger.specs.declared.stops.Break.{Break}

pub no_stops : (sources : List SourceText) (stops : List Break) (old : List ℕ) → old ≡ old ++ stop_lines sources stops 0
unfolding stop_lines
no_stops sources stops old = sym (append-nil old)

pub more_stops : (sources : List SourceText) (stops : List Break) (k : ℕ) (old so new : List ℕ) → so ≡ old ++ stop_lines sources stops k
    → new ≡ so ++ stop_line sources k (slice_get stops k) → new ≡ old ++ stop_lines sources stops (k + 1)
unfolding stop_lines
more_stops sources stops k old so new a b =
    let line = stop_line sources k (slice_get stops k) in
    rw add-one (b ∙ ap (λ s. s ++ line) a ∙ append_assoc old (stop_lines sources stops k) line)
