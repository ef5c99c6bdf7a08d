use Rattle.std.proofs.Common.{◌≡◌, length, take, drop}
use Rattle.teco_gap.specs.Gap.{text}
use Rattle.teco_store.specs.declared.short_text.TheConstants.{SHORT_LIMIT}
use Rattle.teco_store.proofs.short_text.ShortText.copied.Given as goal

abbrev pub invariant-loop-i : goal.invariant-loop-i
invariant-loop-i l = record {
  places : length l.bytes ≡ SHORT_LIMIT;
  copied : take l.i l.bytes ≡ take l.i (drop l.at (text l.buffer));
}
