use Rattle.std.proofs.Common.{◌≡◌, ◌-◌, false, length, Some}
use Rattle.teco_scan.specs.Seen.{IsSpanIn, bytes_in}
use Rattle.teco_check.specs.Walk.{first_of, first_within}
use Rattle.teco_check.specs.declared.faults.TheConstants.{MOST_TEXTS}
use Rattle.teco_lint.specs.Faults.{fault_itself}
use Rattle.teco_lint.specs.Spelling.{is_misspelt_text, misspelt_within}
use Rattle.teco_lint.specs.Told.{is_in_text, own_fault}
use Rattle.teco_lint.proofs.faults.innermost.Given as goal

-- A fault of the text itself is not changed. The fault that was found is the first one of the text in which it is, so many texts deep, and
-- makes that misspelt as the first one of the whole does.
abbrev pub invariant-loop-texts : goal.invariant-loop-texts
invariant-loop-texts l = record {
  own : is_in_text l.fn.fault.wrong ≡ false → l.found ≡ own_fault (length l.text) l.fn.fault;
  itself : fault_itself l.profile MOST_TEXTS l.code l.text (own_fault (length l.text) l.fn.fault) ≡ fault_itself l.profile l.texts l.code l.text l.found;
  inside : IsSpanIn (length l.text) l.found.inside;
  first : Some l.fn.fault ≡ first_of l.profile l.code l.text
      → Some (record { at = l.found.at - l.found.inside.from; wrong = l.found.wrong }) ≡ first_within l.profile l.texts l.code (bytes_in l.text l.found.inside);
  ends : Some l.fn.fault ≡ first_of l.profile l.code l.text
      → is_misspelt_text l.profile l.code l.text ≡ misspelt_within l.profile l.texts l.code (bytes_in l.text l.found.inside);
}

-- proposed from the loop's first test
abbrev pub decreases-loop-texts : goal.decreases-loop-texts
decreases-loop-texts l = l.texts
