use Rattle.std.proofs.Common.{length, ◌+◌, ◌<◌, arith, rules}
use Rattle.teco_store.specs.declared.short_text.TheConstants.{SHORT_LIMIT}
use Rattle.teco_undo.proofs.OneByte.{many_apart}
use Rattle.teco_undo.proofs.recorder.Recorder.replace.Goals as goal

pub exchange-requires-clause-apart : goal.exchange-requires-clause-apart
exchange-requires-clause-apart c =
    let bytes = c.args.there + length c.args.ins.now in
    let many : SHORT_LIMIT < bytes = search rules in
    let one = many_apart bytes (omega (arith, many)) in
    omega (arith, one)
