use Rattle.std.proofs.Common.{arith, tests}
use Rattle.std.proofs.lemmas.Option.{slice_get-get_or, slice_get_past}
use Rattle.teco_search.proofs.reading.occurs_at.Goals as goal

pub returns-then-at-text : goal.returns-then-at-text
returns-then-at-text c = rw (slice_get-get_or c.args.text.now c.args.at 0 c.if-at-text.true)

pub returns-else-at-text : goal.returns-else-at-text
returns-else-at-text c = grind (arith, tests, slice_get_past)
