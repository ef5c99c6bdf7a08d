use Rattle.std.proofs.Common.{◌≡◌, ◌∙◌, ◌+◌, ◌-◌, ◌*◌, ◌++◌, ap, arith, drop, get_or, length, min, sym, true, false}
use Rattle.std.proofs.lemmas.Grind.{common_steps}
use Rattle.teco_core.specs.Number.{digits_value}
use Rattle.teco_scan.specs.Scan.{begins_run, run_of}
use Rattle.teco_step.specs.declared.decimal.TheConstants.{PAST_NUMBERS}
use Rattle.teco_step.proofs.Decimals.{begins_inside, read_on, run_ends, run_more}
use Rattle.teco_step.proofs.decimal.digits_at.Goals as goal

pub loop-digit-preserved : goal.loop-digit-preserved
unfolding digits_value
loop-digit-preserved c =
    let text = c.args.before.now ++ c.args.after.now in
    let end = c.loop-digit.end in
    let begins : begins_run (drop end text) ≡ true = sym c.is_digit_at.ensures ∙ c.loop-digit-test.true in
    let below = begins_inside text end begins in
    let more = run_more text end begins in
    let next = c.loop-digit.value * 10 + (get_or text end 0 - 48) in
    let got : c.min-value.result ≡ min PAST_NUMBERS next = omega arith in
    let rest = run_of (drop (end + 1) text) in
    let long : length (run_of (drop end text)) ≡ length rest + 1 = ap length more ∙ omega arith in
    record {
      within = omega arith;
      small = omega arith;
      value = read_on c.min-value.result next rest (omega arith) ∙ ap (λ ds. min PAST_NUMBERS (digits_value c.loop-digit.value ds)) (sym more) ∙ c.loop-digit.invariant.value;
      end = omega (arith, long, c.loop-digit.invariant.end);
    }

pub returns-clause-value : goal.returns-clause-value
unfolding digits_value
returns-clause-value c =
    let text = c.args.before.now ++ c.args.after.now in
    let ends : begins_run (drop c.loop-digit.end text) ≡ false = sym c.is_digit_at.ensures ∙ c.loop-digit-test.false in
    let small : c.loop-digit.value ≡ min PAST_NUMBERS c.loop-digit.value = omega (arith, c.loop-digit.invariant.small) in
    small ∙ ap (λ ds. min PAST_NUMBERS (digits_value c.loop-digit.value ds)) (sym (run_ends (drop c.loop-digit.end text) ends)) ∙ c.loop-digit.invariant.value

pub returns-clause-end : goal.returns-clause-end
returns-clause-end c =
    let text = c.args.before.now ++ c.args.after.now in
    let ends : begins_run (drop c.loop-digit.end text) ≡ false = sym c.is_digit_at.ensures ∙ c.loop-digit-test.false in
    let none = ap length (run_ends (drop c.loop-digit.end text) ends) in
    omega (arith, none, c.loop-digit.invariant.end)

pub loop-digit-init : goal.loop-digit-init
loop-digit-init c = grind (arith, common_steps)

pub byte_at-requires : goal.byte_at-requires
byte_at-requires c = grind (arith, common_steps)

pub overflow_sub-byte_at : goal.overflow_sub-byte_at
overflow_sub-byte_at c = grind (arith, common_steps)

pub overflow_mul-value : goal.overflow_mul-value
overflow_mul-value c = grind (arith, common_steps)

pub overflow_add-value : goal.overflow_add-value
overflow_add-value c = grind (arith, common_steps)

pub overflow_add-end : goal.overflow_add-end
overflow_add-end c = grind (arith, common_steps)

pub returns-clause-within : goal.returns-clause-within
returns-clause-within c = grind (arith, common_steps)
