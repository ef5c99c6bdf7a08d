use Rattle.std.proofs.Common.{◌≡◌, ◌+◌, ◌≤◌, length, take}
use Rattle.std.specs.List.{suffix_len}
use Rattle.teco_core.specs.Ascii.{is_filler}
use Rattle.teco_scan.proofs.stream.before_fillers.Given as goal

abbrev pub invariant-loop-end : goal.invariant-loop-end
invariant-loop-end l = record {
  within : l.end ≤ length l.bytes;
  fillers : l.end + suffix_len is_filler l.bytes ≡ length l.bytes + suffix_len is_filler (take l.end l.bytes);
}

abbrev pub decreases-loop-end : goal.decreases-loop-end
decreases-loop-end l = l.end
