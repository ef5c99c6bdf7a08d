use Rattle.std.proofs.Common.{◌+◌, drop, slice_index, sym, ap, ◌∙◌}
use Rattle.std.proofs.lemmas.Bool.{le-leb}
use Rattle.std.proofs.lemmas.List.{drop_more}
use Rattle.teco_io.specs.Pieces.{pieces_at}
use Rattle.teco_io.proofs.Pieces.{cut_left_out}
use Rattle.teco_io.proofs.memory_source.cut_past.Goals as goal

pub loop-place-preserved : goal.loop-place-preserved
loop-place-preserved c = λ bs.
    let at = c.args.at in
    let cuts = c.args.cuts.now in
    let place = c.loop-place.place in
    sym (ap (pieces_at at bs) (drop_more cuts place 0 c.loop-place-test.true)
    ∙ cut_left_out at (slice_index cuts place) (drop (place + 1) cuts) bs (le-leb (slice_index cuts place) at c.if-cuts-place.true))
    ∙ c.loop-place.invariant bs
