use Rattle.std.proofs.Common.{◌≡◌, ◌∙◌, ◌+◌, ◌*◌, ◌^◌, ◌≤◌, arith, ap, sym, drop, add-one, pow-suc}
use Rattle.std.proofs.Math.Nat.{pow-le-pow_right}
use Rattle.teco_core.specs.Number.{digits_value}
use Rattle.teco_debugger.proofs.Digits.{digits-more, digits_value-more, number_is}
use Rattle.teco_debugger.proofs.number.number_in.Goals as goal

pub overflow_mul-number : goal.overflow_mul-number
overflow_mul-number c =
    let few : 10 ^ c.loop-byte.byte-index ≤ 10 ^ 17 = pow-le-pow_right {n = 10} (omega arith) {i = c.loop-byte.byte-index} {j = 17} (omega arith) in
    omega (arith, c.loop-byte.invariant.small)

pub overflow_add-number : goal.overflow_add-number
overflow_add-number c =
    let few : 10 ^ c.loop-byte.byte-index ≤ 10 ^ 17 = pow-le-pow_right {n = 10} (omega arith) {i = c.loop-byte.byte-index} {j = 17} (omega arith) in
    omega (arith, c.loop-byte.invariant.small, c.from.ensures, c.if-not-is_ascii_digit.ensures.cases)

pub loop-byte-preserved : goal.loop-byte-preserved
loop-byte-preserved c =
    let bytes = c.args.bytes.now in
    let i = c.loop-byte.byte-index in
    let n = c.loop-byte.number in
    let more : 10 ^ (i + 1) ≡ (10 ^ i) * 10 = ap (λ k. 10 ^ k) (add-one i) ∙ pow-suc 10 i in
    record {
      digits = c.loop-byte.invariant.digits ∙ digits-more bytes i (omega arith) c.if-not-is_ascii_digit.ensures.value;
      small = omega (arith, c.loop-byte.invariant.small, c.from.ensures, c.if-not-is_ascii_digit.ensures.cases, more);
      value = c.loop-byte.invariant.value ∙ digits_value-more n bytes i (omega arith) ∙ ap (λ d. digits_value (n * 10 + d) (drop (i + 1) bytes)) (sym c.from.ensures);
    }

pub returns : goal.returns
returns c =
    number_is c.args.bytes.now c.loop-byte.byte-index c.loop-byte.number c.if-is_empty.ensures c.if-bytes-gt-MOST_DIGITS.false (omega arith) c.loop-byte.invariant.digits c.loop-byte.invariant.value
