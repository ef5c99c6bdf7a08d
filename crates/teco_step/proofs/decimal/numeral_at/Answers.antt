use Rattle.std.proofs.Common.{◌≡◌, ◌∙◌, ◌++◌, ap, arith, drop, length, min, sym, true}
use Rattle.std.proofs.lemmas.List.{drop-drop}
use Rattle.teco_core.specs.Number.{digits_value}
use Rattle.teco_scan.specs.Scan.{run_of}
use Rattle.teco_step.specs.Decimal.{begins_negative}
use Rattle.teco_step.specs.declared.decimal.TheConstants.{PAST_NUMBERS}
use Rattle.teco_step.proofs.Decimals.{negative_value}
use Rattle.teco_step.proofs.decimal.numeral_at.Goals as goal

pub returns-then-is_negative_at-clause-value : goal.returns-then-is_negative_at-clause-value
returns-then-is_negative_at-clause-value c =
    let text = c.args.before.now ++ c.args.after.now in
    let negative : begins_negative (drop c.args.from text) ≡ true = sym c.is_negative_at.ensures ∙ c.if-is_negative_at.true in
    let digits = drop 1 (drop c.args.from text) in
    let read = c.digits_at-value.ensures.value ∙ ap (λ ds. min PAST_NUMBERS (digits_value 0 (run_of ds))) (sym (drop-drop 1 c.args.from text)) in
    rw negative (negative_value c.digits_at-value.result.0 (digits_value 0 (run_of digits)) read)

pub returns-then-is_negative_at-clause-end : goal.returns-then-is_negative_at-clause-end
returns-then-is_negative_at-clause-end c =
    let text = c.args.before.now ++ c.args.after.now in
    let negative : begins_negative (drop c.args.from text) ≡ true = sym c.is_negative_at.ensures ∙ c.if-is_negative_at.true in
    let same = ap (λ ds. length (run_of ds)) (drop-drop 1 c.args.from text) in
    rw negative (omega (arith, same, c.digits_at-value.ensures.end))
