use Rattle.std.proofs.Common.{◌≡◌, List, map, get_or, set, sym, ◌∙◌, ap, arith}
use Rattle.std.proofs.lemmas.List.{get_or-map, length-map}
use Rattle.teco_ffi.specs.Frames.{open_call}
use Rattle.teco_ffi.specs.declared.frames.OpenCall.{OpenCall}
use Rattle.teco_ffi.proofs.OpenCalls.{one_more}
use Rattle.teco_ffi.proofs.frames.tell_calls.Goals as goal

pub loop-k-preserved : goal.loop-k-preserved
loop-k-preserved c =
    let calls = c.args.calls.now in
    let k = c.loop-k.k in
    let test = c.loop-k-test.true in
    let told : c.told.result ≡ get_or (map open_call calls) k c.told.result =
    c.told.ensures ∙ ap open_call c.index-calls-k.is ∙ sym (get_or-map open_call calls k c.index-calls-k.result c.told.result (omega (arith, c.min-n.ensures))) in
    ap (λ (l : List OpenCall). set l k c.told.result) c.loop-k.invariant
    ∙ one_more (map open_call calls) c.args.room.now k c.told.result (omega (arith, length-map calls open_call, c.min-n.ensures)) (omega (arith, c.min-n.ensures)) told
