use Rattle.std.proofs.Common.{rules}
use Rattle.teco_ffi.proofs.handle.Teco.look.Goals as goal

pub returns-in-Some : goal.returns-in-Some
returns-in-Some c = search rules
