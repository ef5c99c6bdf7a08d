use Rattle.std.proofs.Common.{◌≡◌, drop}
use Rattle.tecol_driver.specs.Synonyms.{first_lacked}
use Rattle.tecol_driver.proofs.synonyms.first_lacked.Given as goal

-- the text has those so far
abbrev pub invariant-loop-delimiter : goal.invariant-loop-delimiter
invariant-loop-delimiter l = first_lacked (drop l.delimiter-index l.delimiters) l.text ≡ first_lacked l.delimiters l.text
