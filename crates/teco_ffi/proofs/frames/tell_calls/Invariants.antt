use Rattle.std.proofs.Common.{◌≡◌, ◌++◌, take, drop, map}
use Rattle.teco_ffi.specs.Frames.{open_call}
use Rattle.teco_ffi.proofs.frames.tell_calls.Given as goal

abbrev pub invariant-loop-k : goal.invariant-loop-k
invariant-loop-k l = l.room ≡ take l.k (map open_call l.calls) ++ drop l.k l.fn.room
