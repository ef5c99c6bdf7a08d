use Rattle.std.proofs.Common.{◌≡◌, ◌<◌, ◌≤◌, ◌-◌, None, length, map, subst, arith}
use Rattle.teco_search.specs.Literal.{plain}
use Rattle.teco_search.specs.Occurrence.{looked_for, match_end}
use Rattle.teco_search.proofs.Anchored.{none_before, none_after, none_more, none_fits}
use Rattle.teco_search.proofs.Occurring.{ends_past, forward-none, forward-some}
use Rattle.teco_search.proofs.plain_bytes.first_from.Goals as goal

pub returns-then-anchor-len-clause-value : goal.returns-then-anchor-len-clause-value
returns-then-anchor-len-clause-value g c =
    let elements = map plain c.args.bytes.now in
    let some : 0 < length elements = omega (arith, c.requires.anchored.within) in
    let room : length c.args.text.now - c.args.from ≤ c.args.anchor.now.offset = omega (arith, c.len.ensures.value) in
    forward-none (looked_for c.args.mode elements) c.args.text.now some c.args.from (λ k low high. none_fits c.args.mode elements c.args.anchor.now c.requires.anchored c.args.text.now c.args.from k room low)

pub places-preserved : goal.places-preserved
places-preserved g c =
    let elements = map plain c.args.bytes.now in
    let place = c.in-Some.ensures.0 in
    let start = c.in-Some.place - c.args.anchor.now.offset in
    record {
      low = omega (arith, place.low, place.high, c.places.invariant.low);
      high = omega (arith, place.high);
      none = λ k from_k below. none_more c.args.mode elements c.args.anchor.now c.requires.anchored c.args.text.now c.len.ensures.bytes c.args.from c.places.at c.places.invariant.none c.in-Some.place 0 place
          (λ j low high. let same : start ≡ j = omega arith in subst (λ i. match_end c.args.mode elements c.args.text.now i ≡ None) same c.in-Err.ensures.none) k from_k (omega (arith, below));
    }

pub returns-in-Ok-clause-value : goal.returns-in-Ok-clause-value
returns-in-Ok-clause-value g c =
    let elements = map plain c.args.bytes.now in
    let some : 0 < length elements = omega (arith, c.requires.anchored.within) in
    let place = c.in-Some.ensures.0 in
    forward-some (looked_for c.args.mode elements) c.args.text.now some c.args.from (c.in-Some.place - c.args.anchor.now.offset) c.in-Ok.end (omega (arith, place.low, c.places.invariant.low)) c.in-Ok.ensures.some
    (λ j low below. none_before c.args.mode elements c.args.anchor.now c.requires.anchored c.args.text.now c.len.ensures.bytes c.args.from c.places.at c.places.invariant.none c.in-Some.place place j low (omega arith))

pub returns-in-Ok-clause-within : goal.returns-in-Ok-clause-within
returns-in-Ok-clause-within g c =
    let elements = map plain c.args.bytes.now in
    let some : 0 < length elements = omega (arith, c.requires.anchored.within) in
    let ends = ends_past (looked_for c.args.mode elements) c.args.text.now some (c.in-Some.place - c.args.anchor.now.offset) c.in-Ok.end c.in-Ok.ensures.some in
    (omega (arith, c.in-Some.ensures.0.low, c.places.invariant.low), ends.past, ends.within)

pub returns-clause-value : goal.returns-clause-value
returns-clause-value g c =
    let elements = map plain c.args.bytes.now in
    let some : 0 < length elements = omega (arith, c.requires.anchored.within) in
    forward-none (looked_for c.args.mode elements) c.args.text.now some c.args.from (λ k low high.
    none_after c.args.mode elements c.args.anchor.now c.requires.anchored c.args.text.now c.len.ensures.bytes c.args.from c.places.at c.places.invariant.none c.in_default.ensures k low)
