use Rattle.std.proofs.Common.{rules}
use Rattle.teco_source.proofs.reader.Reader.mark.Goals as goal

pub returns : goal.returns
returns c = search rules

pub returns-then-matches : goal.returns-then-matches
returns-then-matches c = search rules
