use Rattle.std.proofs.Common.{◌≡◌, ◌+◌, drop}
use Rattle.teco_search.specs.Anchor.{AreSingle}
use Rattle.teco_search.specs.Occurrence.{match_end}
use Rattle.teco_search.proofs.run.tried.Given as goal

abbrev pub invariant-elements : goal.invariant-elements
invariant-elements l = record {
  matches : match_end l.mode (drop l.i l.elements) l.text l.place ≡ match_end l.mode l.elements l.text l.start;
  along : l.place ≡ l.start + l.i;
  single : AreSingle l.elements l.i;
}
