use Rattle.std.proofs.Common.{◌≡◌}
use Rattle.teco_check.specs.declared.faults.TheConstants.{MOST_TEXTS}
use Rattle.teco_lint.specs.Spelling.{misspelt_within}
use Rattle.teco_lint.proofs.spelling.is_misspelt_text.Given as goal

abbrev pub invariant-loop-fault : goal.invariant-loop-fault
invariant-loop-fault l = misspelt_within l.profile MOST_TEXTS l.code l.text ≡ misspelt_within l.profile l.texts l.code l.inside

abbrev pub decreases-loop-fault : goal.decreases-loop-fault
decreases-loop-fault l = l.texts
