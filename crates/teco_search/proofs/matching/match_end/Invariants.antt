use Rattle.std.proofs.Common.{◌≡◌, drop}
use Rattle.teco_search.specs.Occurrence.{match_end}
use Rattle.teco_search.proofs.matching.match_end.Given as goal

abbrev pub invariant-elements : goal.invariant-elements
invariant-elements l = match_end l.mode (drop l.element-index l.elements) l.text l.place ≡ match_end l.mode l.elements l.text l.at
