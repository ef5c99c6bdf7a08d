use Rattle.std.proofs.Common.{◌≡◌, ◌≤◌, drop}
use Rattle.teco_driver.specs.Places.{place_told}
use Rattle.teco_driver.proofs.placing.put_place.Given as goal

abbrev pub invariant-loop-part : goal.invariant-loop-part
invariant-loop-part l = record {
  out : l.out ≡ l.fn.out;
  within : l.from ≤ l.at;
  left : place_told l.commands l.parts 0 l.at ≡ place_told l.commands (drop l.part-index l.parts) l.from l.at;
}
