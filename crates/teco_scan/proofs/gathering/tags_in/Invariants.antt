use Rattle.std.proofs.Common.{◌≡◌, ◌≤◌, ◌-◌, ℕ, List, length, drop, IfSome}
use Rattle.teco_scan.specs.Closes.{tag_of}
use Rattle.teco_scan.specs.Gathered.{place_of}
use Rattle.teco_scan.specs.Lists.{tag_at}
use Rattle.teco_scan.proofs.FirstPlaces.{first_of}
use Rattle.teco_scan.proofs.gathering.tags_in.Given as goal

-- a tag that was gathered is the first of its name, and the others come later
abbrev pub invariant-gathering : goal.invariant-gathering
invariant-gathering l = record {
  inside : l.next ≤ length l.text;
  finds : (name : List ℕ) → first_of (tag_of l.text (place_of l.places name)) (tag_at l.profile name l.depth (drop l.next l.text))
      ≡ tag_at l.profile name l.depth (drop l.fn.block_start l.text);
  within : (name : List ℕ) → IfSome (place_of l.places name) (λ to. to ≤ length l.text);
}

abbrev pub decreases-gathering : goal.decreases-gathering
decreases-gathering l = length l.text - l.next
