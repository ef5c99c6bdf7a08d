use Rattle.std.proofs.Common.{sym, arith}
use Rattle.std.proofs.lemmas.List.{length-take-le}
use Rattle.teco_messages.proofs.spelling.spell_token.Goals as goal

pub slice_bounds-shown-end : goal.slice_bounds-shown-end
slice_bounds-shown-end c = sym (length-take-le 40 c.args.bytes.now (omega (arith, c.if-bytes-le-MOST_SHOWN.false)))
