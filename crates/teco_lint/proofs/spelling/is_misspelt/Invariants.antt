use Rattle.std.proofs.Common.{◌≡◌, ◌≤◌, ◌-◌, ◌||◌, length, drop}
use Rattle.std.specs.List.{list_any}
use Rattle.teco_lint.specs.Strings.{strings_of}
use Rattle.teco_lint.specs.Spelling.{is_misspelt, is_misspelt_string}
use Rattle.teco_lint.proofs.spelling.is_misspelt.Given as goal

abbrev pub invariant-loop-end : goal.invariant-loop-end
invariant-loop-end l = record {
  inside : l.start ≤ length l.commands;
  so_far : is_misspelt l.profile l.code l.commands
      ≡ (l.misspelt || list_any (is_misspelt_string l.profile l.code) (strings_of (drop l.start l.commands)));
}

abbrev pub decreases-loop-end : goal.decreases-loop-end
decreases-loop-end l = length l.commands - l.start
