use Rattle.std.proofs.Common.{map, take}
use Rattle.std.specs.List.{AllZip}
use Rattle.teco_cli.specs.Assignments.{IsAssignment}
use Rattle.teco_cli.proofs.line.assigning.assignments_of.Given as goal

-- the assignments of the words so far
abbrev pub invariant-loop-word : goal.invariant-loop-word
invariant-loop-word l = AllZip IsAssignment (map (λ word. word.now) (take l.word-index l.words)) l.made.items
