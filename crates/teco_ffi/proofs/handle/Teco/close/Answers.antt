use Rattle.std.proofs.Common.{rules}
use Rattle.teco_ffi.proofs.handle.Teco.close.Goals as goal

pub returns : goal.returns
returns c = search rules
