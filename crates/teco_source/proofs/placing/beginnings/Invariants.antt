use Rattle.std.proofs.Common.{◌≡◌, drop}
use Rattle.teco_source.specs.Places.{places_of, places_from}
use Rattle.teco_source.specs.Seen.{state_of}
use Rattle.teco_source.proofs.placing.beginnings.Given as goal

abbrev pub invariant-loop-at : goal.invariant-loop-at
invariant-loop-at l = places_of l.source ≡ places_from (state_of l.reader) l.at l.places.items (drop l.at l.source)
