use Rattle.teco_source.proofs.Reading.{none_ends, some_end}
use Rattle.teco_source.proofs.reader.ends_line.Goals as goal

pub returns-then-len-eq0 : goal.returns-then-len-eq0
returns-then-len-eq0 c = none_ends c.args.text.now c.if-len-eq0.true

pub returns : goal.returns
returns c = some_end c.args.text.now c.if-len-eq0.false
