use Rattle.std.proofs.Common.{◌<◌, ◌≤◌}
use Rattle.std.specs.Prelude.{IfSome}
use Rattle.std.proofs.lemmas.Result.{IfOk-weaker}
use Rattle.teco_search.specs.Anchor.{FindsLastBelow}
use Rattle.teco_search.specs.Occurrence.{looked_for, BeginsBackward, backward_ending_by}
use Rattle.teco_search.proofs.Anchored.{begins_by_end, within_by}
use Rattle.teco_search.proofs.places.last_by_end.Goals as goal

pub returns-clause-value : goal.returns-clause-value
returns-clause-value g c =
    let sought = looked_for c.args.mode c.args.elements.now in
    let text = c.args.text.now in
    IfOk-weaker c.last_below.result (FindsLastBelow sought text c.args.anchor.now.offset c.args.to c.args.to) (BeginsBackward sought text (backward_ending_by sought text c.args.to))
    (λ found last. begins_by_end c.args.mode c.args.elements.now c.args.anchor.now c.requires.anchored text c.args.to found last) c.last_below.ensures

pub returns-clause-within : goal.returns-clause-within
returns-clause-within g c =
    let sought = looked_for c.args.mode c.args.elements.now in
    let text = c.args.text.now in
    IfOk-weaker c.last_below.result (FindsLastBelow sought text c.args.anchor.now.offset c.args.to c.args.to) (λ found. IfSome found (λ m. (m.0 < m.1) × (m.1 ≤ c.args.to)))
    (λ found last. within_by c.args.mode c.args.elements.now c.args.anchor.now c.requires.anchored text c.args.to c.args.to found last) c.last_below.ensures
