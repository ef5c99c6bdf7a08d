use Rattle.std.proofs.Common.{◌≡◌, ◌∙◌, ◌+◌, ◌-◌, ◌/◌, ◌%◌, ◌∷◌, ap, arith, drop, drop_of_length-le, length-set, sym, true}
use Rattle.std.proofs.lemmas.List.{drop-set}
use Rattle.std.specs.Fmt.{digit_glyph, digits_onto}
use Rattle.teco_step.proofs.Digits.{next, onto_nothing}
use Rattle.teco_step.proofs.typing.digits_in.Goals as goal

pub loop-start-init : goal.loop-start-init
loop-start-init c = record {
  within = omega arith;
  long = c.told-bytes;
  same = ap (digits_onto 64 c.args.base true c.args.n) (drop_of_length-le c.args.bytes.now {i = 64} (omega (arith, c.told-bytes))) ∙ onto_nothing c.args.base c.args.n;
}

pub loop-start-preserved : goal.loop-start-preserved
loop-start-preserved c =
    let l = c.loop-start in
    let base = c.args.base in
    let there : l.start - 1 + 1 ≡ l.start = omega arith in
    let byte = c.digit_byte.result in
    let written = drop-set l.bytes (l.start - 1) byte (omega (arith, l.invariant.long)) ∙ ap (λ i. byte ∷ drop i l.bytes) there
    ∙ ap (λ b. b ∷ drop l.start l.bytes) c.digit_byte.ensures in
    record {
      within = omega arith;
      long = length-set l.bytes (l.start - 1) byte ∙ l.invariant.long;
      same = ap (digits_onto (l.start - 1) base true (l.left / base)) written ∙ sym (next l.start base l.left (drop l.start l.bytes) c.loop-start-test.true c.if-left-eq0.false)
          ∙ l.invariant.same;
    }
