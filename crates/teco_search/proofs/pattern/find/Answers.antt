use Rattle.std.proofs.Common.{◌≡◌, ◌++◌, ◌∙◌, ◌-◌, ◌<◌, ◌≤◌, Option, length, subst, w32, pos, negsuc}
use Rattle.std.specs.Prelude.{IfOk, IfSome, slice_get}
use Rattle.std.proofs.lemmas.Int.{to_z-of_z}
use Rattle.std.proofs.lemmas.Result.{IfOk-weaker}
use Rattle.teco_search.specs.Law.{FindsNext, FindsLastBy}
use Rattle.teco_search.specs.Occurrence.{Sought, Span, backward, occurrence}
use Rattle.teco_search.specs.Search.{sought_backward}
use Rattle.teco_search.proofs.Begins.{ready_some_backward}
use Rattle.teco_search.proofs.Numbered.{occurrence_backward, occurrence_within, occurrence_next, occurrence_last}
use Rattle.teco_search.proofs.pattern.find.Goals as goal

pub returns : goal.returns
returns g c =
    let same = to_z-of_z w32 c.args.n c.ranges.n in
    let text = c.args.halves.0.now ++ c.args.halves.1.now in
    let sought = c.args.pattern.now in
    let some : 0 < length sought.elements = subst (λ (s : Sought). 0 < length s.elements) c.backward.ensures.sought (ready_some_backward c.backward.result c.backward.ensures.ready) in
    let nth : slice_get (backward (sought_backward c.backward.result) c.new-text.result c.args.from) (c.unsigned_abs.result - 1) ≡ occurrence sought text c.args.from c.args.n =
    rw (c.backward.ensures.sought, c.new-text.ensures)
    (occurrence_backward sought text c.args.from c.args.n c.unsigned_abs.result (rw same at c.if-n-gt0.false) c.requires.some (rw same at c.unsigned_abs.ensures.value)) in
    let IsNth : Option Span → Type 0 = λ found. found ≡ occurrence sought text c.args.from c.args.n in
    let value : IfOk c.nth_backward.result IsNth =
    IfOk-weaker c.nth_backward.result (λ found. found ≡ slice_get (backward (sought_backward c.backward.result) c.new-text.result c.args.from) (c.unsigned_abs.result - 1)) IsNth (λ found is. is ∙ nth) c.nth_backward.ensures in
    record {
      value = value;
      within = IfOk-weaker c.nth_backward.result IsNth (λ found. IfSome found (λ m. (m.0 < m.1) × (m.1 ≤ length text))) (λ found is. occurrence_within sought text c.args.from some c.args.n found is) value;
      next = IfOk-weaker c.nth_backward.result IsNth (λ found. c.args.n ≡ pos 1 → FindsNext sought text c.args.from found) (λ found is. occurrence_next sought text c.args.from some c.args.n found is) value;
      last = IfOk-weaker c.nth_backward.result IsNth (λ found. c.args.n ≡ negsuc 0 → FindsLastBy sought text c.args.from found) (λ found is. occurrence_last sought text c.args.from some c.args.n found is) value;
    }
