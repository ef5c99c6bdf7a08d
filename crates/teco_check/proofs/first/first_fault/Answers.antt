use Rattle.std.proofs.Common.{suc, sym, ◌∙◌}
use Rattle.teco_check.specs.declared.faults.TheConstants.{MOST_TEXTS}
use Rattle.teco_check.proofs.first.first_fault.Goals as goal

pub returns : goal.returns
returns c = record {
  first = c.first_fault_within.ensures.first;
  exact = c.first_fault_within.ensures.clean;
  clean = λ none. (suc MOST_TEXTS, sym c.first_fault_within.ensures.clean ∙ none);
  place = c.first_fault_within.ensures.place;
  breaks = c.first_fault_within.ensures.breaks;
}
