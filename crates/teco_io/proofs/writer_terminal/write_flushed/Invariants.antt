use Rattle.std.proofs.Common.{length, take, ◌-◌, ◌≤◌, false}
use Rattle.std.specs.Io.KnownBytes.{Appends}
use Rattle.teco_io.specs.Sink.{Counts}
use Rattle.teco_io.proofs.writer_terminal.write_flushed.Given as goal

abbrev pub invariant-loop-at : goal.invariant-loop-at
invariant-loop-at g l = record {
  within : l.at ≤ length l.bytes;
  written : Appends (g.S.Sink.taken l.initial.sink) (g.S.Sink.taken l.sink) (take l.at l.bytes);
  failures : Counts (g.S.Sink.failures l.initial.sink) (g.S.Sink.failures l.sink) false;
}

abbrev pub decreases-loop-at : goal.decreases-loop-at
decreases-loop-at g l = length l.bytes - l.at
