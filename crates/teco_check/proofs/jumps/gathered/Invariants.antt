use Rattle.std.proofs.Common.{◌≡◌, ◌≤◌, ◌+◌, ◌-◌, length}
use Rattle.teco_core.specs.declared.limits.TheConstants.{BLOCK_LIMIT}
use Rattle.teco_check.specs.Checked.{AreInside}
use Rattle.teco_check.proofs.jumps.gathered.Given as goal

-- the lists that are open begin in the text
abbrev pub invariant-gathering : goal.invariant-gathering
invariant-gathering l = record {
  inside : l.at ≤ length l.text;
  deep : l.depth ≤ BLOCK_LIMIT;
  begun : AreInside l.text l.starts (l.depth + 1);
  text : l.tags.bytes.now ≡ l.text;
  profile : l.tags.profile ≡ l.profile;
}

abbrev pub decreases-gathering : goal.decreases-gathering
decreases-gathering l = length l.text - l.at
