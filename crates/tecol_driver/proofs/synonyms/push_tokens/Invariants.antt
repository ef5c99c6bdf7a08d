use Rattle.std.proofs.Common.{◌≡◌, ◌≤◌, ◌-◌, ◌++◌, Bool, List, length}
use Rattle.tecol_driver.specs.declared.synonyms.Change.{Change}
use Rattle.tecol_driver.specs.Synonyms.{AreOfTokens}
use Rattle.tecol_driver.proofs.synonyms.push_tokens.Given as goal

-- with the changes of what is left, those so far are all
abbrev pub invariant-loop-token : goal.invariant-loop-token
invariant-loop-token l = record {
  within : l.at ≤ length l.text;
  changes : List Change;
  put : l.out.items ≡ l.fn.out.items ++ changes;
  all : (later : List Change) (whole : Bool) → AreOfTokens l.text l.is_ended l.at later whole → AreOfTokens l.text l.is_ended l.from (changes ++ later) whole;
}

abbrev pub decreases-loop-token : goal.decreases-loop-token
decreases-loop-token l = length l.text - l.at
