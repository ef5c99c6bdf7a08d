use Rattle.std.proofs.Common.{◌≡◌, ◌≤◌, ◌-◌, ◌∷◌, length}
use Rattle.std.specs.Prelude.{slice_get}
use Rattle.teco_search.specs.Occurrence.{backward, backward_ending_by}
use Rattle.teco_search.specs.Search.{sought_backward}
use Rattle.teco_search.proofs.search.nth_backward.Given as goal

abbrev pub invariant-skipped : goal.invariant-skipped
invariant-skipped g l = record {
  within : l.last.0 ≤ length l.text;
  same : slice_get (backward (sought_backward l.search) l.text l.from) (l.n - 1) ≡ slice_get (l.last ∷ backward_ending_by (sought_backward l.search) l.text l.last.0) (l.n - l._passed);
}
