use Rattle.std.proofs.Common.{◌≡◌, ◌++◌, ◌∙◌, ◌-◌, ◌<◌, length, map, arith, w32}
use Rattle.std.specs.Prelude.{slice_get}
use Rattle.std.proofs.lemmas.Int.{to_z-of_z}
use Rattle.std.proofs.lemmas.List.{length-map}
use Rattle.teco_search.specs.Literal.{plain}
use Rattle.teco_search.specs.Occurrence.{looked_for, forward, occurrence}
use Rattle.teco_search.proofs.Numbered.{occurrence_forward, occurrence_within}
use Rattle.teco_search.proofs.as_it_stands.find_plain.Goals as goal

pub returns-then-all_exact-clause-value : goal.returns-then-all_exact-clause-value
returns-then-all_exact-clause-value g c =
    let same = to_z-of_z w32 c.args.n c.ranges.n in
    let text = c.args.halves.0.now ++ c.args.halves.1.now in
    let sought = looked_for c.args.mode (map plain c.args.bytes.now) in
    let nth : slice_get (forward (looked_for c.args.mode (map plain c.new.result)) c.new-text.result c.args.from) (c.unsigned_abs-wanted.result - 1) ≡ occurrence sought text c.args.from c.args.n =
    rw (c.new.ensures, c.new-text.ensures) (occurrence_forward sought text c.args.from c.args.n c.unsigned_abs-wanted.result c.requires.forward (rw same at c.unsigned_abs-wanted.ensures.value)) in
    c.ok.ensures.value ∙ c.in_ok-told.ensures.found ∙ nth

pub returns-then-all_exact-clause-within : goal.returns-then-all_exact-clause-within
returns-then-all_exact-clause-within g c =
    let text = c.args.halves.0.now ++ c.args.halves.1.now in
    let sought = looked_for c.args.mode (map plain c.args.bytes.now) in
    let some : 0 < length sought.elements = omega (arith, c.requires.some, length-map c.args.bytes.now plain) in
    occurrence_within sought text c.args.from some c.args.n c.ok.result (returns-then-all_exact-clause-value g c)

pub returns-clause-value : goal.returns-clause-value
returns-clause-value g c =
    let same = to_z-of_z w32 c.args.n c.ranges.n in
    let text = c.args.halves.0.now ++ c.args.halves.1.now in
    let sought = looked_for c.args.mode (map plain c.args.bytes.now) in
    let nth : slice_get (forward sought c.new-text.result c.args.from) (c.unsigned_abs-wanted.result - 1) ≡ occurrence sought text c.args.from c.args.n =
    rw c.new-text.ensures (occurrence_forward sought text c.args.from c.args.n c.unsigned_abs-wanted.result c.requires.forward (rw same at c.unsigned_abs-wanted.ensures.value)) in
    c.ok-2.ensures.value ∙ c.in_ok-told-2.ensures.found ∙ nth

pub returns-clause-within : goal.returns-clause-within
returns-clause-within g c =
    let text = c.args.halves.0.now ++ c.args.halves.1.now in
    let sought = looked_for c.args.mode (map plain c.args.bytes.now) in
    let some : 0 < length sought.elements = omega (arith, c.requires.some, length-map c.args.bytes.now plain) in
    occurrence_within sought text c.args.from some c.args.n c.ok-2.result (returns-clause-value g c)
