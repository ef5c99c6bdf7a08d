use Rattle.std.proofs.Common.{◌≡◌, ◌+◌, ◌≤◌, length, take}
use Rattle.std.specs.List.{suffix_len}
use Rattle.teco_cli.specs.CommandLine.{is_escape}
use Rattle.teco_cli.proofs.line.pages.before_escapes.Given as goal

abbrev pub invariant-loop-end : goal.invariant-loop-end
invariant-loop-end l = record {
  within : l.end ≤ length l.bytes;
  escapes : l.end + suffix_len is_escape l.bytes ≡ length l.bytes + suffix_len is_escape (take l.end l.bytes);
}

abbrev pub decreases-loop-end : goal.decreases-loop-end
decreases-loop-end l = l.end
