use Rattle.std.proofs.Common.{rules}
use Rattle.teco_source.proofs.reader.Reader.blank.Goals as goal

pub returns : goal.returns
returns c = search rules
