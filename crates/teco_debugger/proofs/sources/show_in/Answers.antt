use Rattle.std.proofs.Common.{◌≡◌, ◌-◌, ◌<◌, length, false, arith, refl}
use Rattle.std.specs.Prelude.{◌==◌}
use Rattle.teco_debugger.specs.Sources.{shown_place}
use Rattle.teco_debugger.proofs.Shown.{at_else, last_shown, not_none, positive}
use Rattle.teco_debugger.proofs.sources.show_in.Goals as goal

pub returns : goal.returns
returns c =
    let source = c.args.source.now in
    let place = c.args.place.now in
    let count = c.len-calls.result in
    let is : count ≡ length place.calls.items = omega (arith, c.len-calls.ensures) in
    let none : (length place.calls.items == 0) ≡ false = not_none count (length place.calls.items) is c.if-calls-eq0.false in
    let some : 0 < count = positive count c.if-calls-eq0.false in
    record {
      steps = refl;
      at = at_else (length place.calls.items == 0) (shown_place source place.at) place.at none;
      turns = refl;
      calls = last_shown source place.calls.items (count - 1) c.index_mut.result.now c.index.result.now c.shown_place.result (omega (arith, is, some)) c.index_mut.ensures.value c.index.ensures c.shown_place.ensures;
    }
