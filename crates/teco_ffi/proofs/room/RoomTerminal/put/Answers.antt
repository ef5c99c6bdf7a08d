use Rattle.std.proofs.Common.{arith, refl}
use Rattle.teco_ffi.proofs.room.RoomTerminal.put.Goals as goal

pub returns-then-left-bytes-clause-fails : goal.returns-then-left-bytes-clause-fails
returns-then-left-bytes-clause-fails c = (λ _. omega arith, λ _. refl)
