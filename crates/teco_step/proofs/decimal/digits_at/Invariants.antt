use Rattle.std.proofs.Common.{◌≡◌, ◌+◌, ◌-◌, ◌≤◌, ◌++◌, length, drop, min}
use Rattle.teco_core.specs.Number.{digits_value}
use Rattle.teco_scan.specs.Scan.{run_of}
use Rattle.teco_step.specs.declared.decimal.TheConstants.{PAST_NUMBERS}
use Rattle.teco_step.proofs.decimal.digits_at.Given as goal

-- What is read from the beginning is what is read on from here.
abbrev pub invariant-loop-digit : goal.invariant-loop-digit
invariant-loop-digit l =
    let text = l.before ++ l.after in
    record {
      within : l.end ≤ length text;
      small : l.value ≤ PAST_NUMBERS;
      value : min PAST_NUMBERS (digits_value l.value (run_of (drop l.end text))) ≡ min PAST_NUMBERS (digits_value 0 (run_of (drop l.from text)));
      end : l.end + length (run_of (drop l.end text)) ≡ l.from + length (run_of (drop l.from text));
    }

abbrev pub decreases-loop-digit : goal.decreases-loop-digit
decreases-loop-digit l = length (l.before ++ l.after) - l.end
