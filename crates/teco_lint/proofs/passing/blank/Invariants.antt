use Rattle.std.proofs.Common.{◌≡◌, ◌≤◌, ◌⊎◌, ◌-◌}
use Rattle.std.specs.Prelude.{vec_len}
use Rattle.teco_lint.specs.Faults.{blanked}
use Rattle.teco_lint.proofs.passing.blank.Given as goal

abbrev pub invariant-loop-at : goal.invariant-loop-at
invariant-loop-at l = record {
  from : l.fn.span.from ≤ l.at;
  to : (l.at ≡ l.fn.span.from) ⊎ (l.at ≤ l.end);
  items : l.text.items ≡ blanked l.fn.span.from (l.at - l.fn.span.from) l.initial.text.items;
  len : vec_len l.text ≡ vec_len l.initial.text;
}
