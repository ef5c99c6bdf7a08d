use Rattle.std.proofs.Common.{◌≡◌, length, arith}
use Rattle.std.specs.Prelude.{min}
use Rattle.teco_search.proofs.Anchored.{late_none, late_after, late_all, late_more, last_none, last_some}
use Rattle.teco_search.proofs.places.last_below.Goals as goal

pub places-init : goal.places-init
places-init g c =
    let start : c.min-at.result ≡ min c.args.below (length c.args.text.now) = rw c.len.ensures.value at c.min-at.ensures in
    record {
      high = omega arith;
      within = omega arith;
      none = λ k q low under is. late_none c.args.mode c.args.elements.now c.args.anchor.now c.requires.anchored c.args.text.now c.args.below c.min-at.result c.args.to k q start low under is;
    }

pub returns-then-place-anchor : goal.returns-then-place-anchor
returns-then-place-anchor g c =
    last_none c.args.mode c.args.elements.now c.args.anchor.now c.requires.anchored c.args.text.now c.len.ensures.bytes c.args.below c.args.to c.places.at c.places.invariant.none
    (λ k q under is. late_after c.args.mode c.args.elements.now c.args.anchor.now c.requires.anchored c.args.text.now c.len.ensures.bytes c.args.below c.args.to c.places.at c.places.invariant.none c.in-Some.place c.in-Some.ensures.0 k q (omega arith) under is)

pub returns-in-Ok : goal.returns-in-Ok
returns-in-Ok g c =
    last_some c.args.mode c.args.elements.now c.args.anchor.now c.requires.anchored c.args.text.now c.len.ensures.bytes c.args.below c.args.to c.places.at c.places.invariant.none c.in-Some.place c.in-Ok.end
    (omega (arith, c.in-Some.ensures.0.high, c.places.invariant.high)) (omega arith) c.in-Some.ensures.0 c.in-Ok.ensures.some.0 c.in-Ok.ensures.some.1

pub places-preserved : goal.places-preserved
places-preserved g c =
    let high = c.in-Some.ensures.0.high in
    let less = c.saturating_sub-at.ensures in
    record {
      high = omega (arith, high, less, c.places.invariant.high);
      within = omega (arith, high, less, c.places.invariant.within);
      none = λ k q above under is. late_more c.args.mode c.args.elements.now c.args.anchor.now c.requires.anchored c.args.text.now c.len.ensures.bytes c.args.below c.args.to c.places.at c.places.invariant.none c.in-Some.place c.in-Err.miss.others
          c.in-Some.ensures.0 (omega arith) c.in-Err.ensures.none k q (omega (arith, above, less)) under is;
    }

pub returns : goal.returns
returns g c =
    last_none c.args.mode c.args.elements.now c.args.anchor.now c.requires.anchored c.args.text.now c.len.ensures.bytes c.args.below c.args.to c.places.at c.places.invariant.none
    (late_all c.args.mode c.args.elements.now c.args.anchor.now c.requires.anchored c.args.text.now c.len.ensures.bytes c.args.below c.args.to c.places.at c.places.invariant.none c.in_default.ensures)
