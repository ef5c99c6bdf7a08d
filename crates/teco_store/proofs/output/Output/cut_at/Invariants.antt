use Rattle.std.proofs.Common.{◌≡◌, ◌+◌, ◌≤◌, length, take}
use Rattle.std.specs.List.{sum_by}
use Rattle.teco_store.specs.Parts.{own_size, size}
use Rattle.teco_store.proofs.output.Output.cut_at.Given as goal

abbrev pub invariant-loop-parts : goal.invariant-loop-parts
invariant-loop-parts l = record {
  there : l.parts ≤ length l.self.parts.items;
  own_is : l.own ≡ sum_by own_size (take l.parts l.self.parts.items);
  over_is : l.shown + l.over ≡ sum_by size (take l.parts l.self.parts.items);
}

abbrev pub decreases-loop-parts : goal.decreases-loop-parts
decreases-loop-parts l = l.parts
