use Rattle.std.proofs.Common.{◌≡◌, ◌+◌, ◌-◌, inl, inr, true, ℕ, Some, sym, ap, ◌∙◌, arith, true≢false}
use Rattle.teco_scan.specs.Seen.{bytes_in}
use Rattle.teco_check.specs.declared.faults.Wrong.TheVariants as wrongs
use Rattle.teco_lint.specs.Faults.{fault_itself}
use Rattle.teco_lint.specs.Spelling.{misspelt_within}
use Rattle.teco_lint.specs.Told.{ends_run, is_in_text}
use Rattle.teco_lint.specs.declared.remarks.FaultIn.{FaultIn}
use Rattle.teco_lint.proofs.FirstFaults.{deepest, ends_by, in_text_is, lies_inside, none_deeper, some_deeper}
use Rattle.teco_lint.proofs.Misspelt.{by_inner, by_none}
use Rattle.teco_lint.proofs.faults.innermost.Goals as goal

pub returns-in_default-clause-itself : goal.returns-in_default-clause-itself
returns-in_default-clause-itself c =
    let found = c.loop-texts.found in
    let inside : is_in_text found.wrong ≡ true = sym c.is_in_text.ensures ∙ c.if-is_in_text.true in
    sym (c.loop-texts.invariant.itself
    ∙ none_deeper c.args.profile c.loop-texts.texts c.args.code.now c.args.text.now found c.text_put-inside.result (omega arith) inside c.text_put-inside.ensures.span c.in_default.ensures.first)

pub returns-in_default-clause-ends : goal.returns-in_default-clause-ends
returns-in_default-clause-ends c = λ is.
    let found = c.loop-texts.found in
    let n = c.loop-texts.texts in
    let code = c.args.code.now in
    let whole = bytes_in c.args.text.now found.inside in
    let inside : is_in_text found.wrong ≡ true = sym c.is_in_text.ensures ∙ c.if-is_in_text.true in
    let wrong : found.wrong ≡ wrongs.InText = in_text_is found.wrong inside in
    ap ends_run wrong
    ∙ sym (c.loop-texts.invariant.ends is
    ∙ by_inner c.args.profile n code whole (record { at = found.at - found.inside.from; wrong = found.wrong }) (c.loop-texts.invariant.first is) wrong (omega arith)
    ∙ ap (misspelt_within c.args.profile (n - 1) code) (sym c.text_put-inside.ensures.text)
    ∙ by_none c.args.profile (n - 1) code (bytes_in c.args.text.now c.text_put-inside.result) c.in_default.ensures.first)

pub loop-texts-preserved : goal.loop-texts-preserved
loop-texts-preserved c =
    let found = c.loop-texts.found in
    let n = c.loop-texts.texts in
    let code = c.args.code.now in
    let text = c.args.text.now in
    let span = c.text_put-inside.result in
    let inner = c.in-Some.fault in
    let inside : is_in_text found.wrong ≡ true = sym c.is_in_text.ensures ∙ c.if-is_in_text.true in
    let wrong : found.wrong ≡ wrongs.InText = in_text_is found.wrong inside in
    let within = lies_inside c.args.profile (bytes_in text span) inner.at inner.wrong c.in-Some.ensures.place in
    let at : c.saturating_add.result ≡ span.from + inner.at = omega (arith, within, c.saturating_add.ensures, c.text_put-inside.ensures.inside) in
    let back : c.saturating_add.result - span.from ≡ inner.at = omega (arith, at) in
    record {
      own = λ off. absurd (true≢false (sym inside ∙ ap (λ (f : FaultIn). is_in_text f.wrong) (c.loop-texts.invariant.own off) ∙ off));
      itself = c.loop-texts.invariant.itself
          ∙ some_deeper c.args.profile n code text found span inner (omega arith) inside c.text_put-inside.ensures.span c.in-Some.ensures.first
          ∙ ap (λ (k : ℕ). fault_itself c.args.profile (n - 1) code text (record { at = k; wrong = inner.wrong; inside = span })) (sym at);
      inside = c.text_put-inside.ensures.inside;
      first = λ is. ap (λ (k : ℕ). Some (record { at = k; wrong = inner.wrong })) back ∙ c.in-Some.ensures.first;
      ends = λ is. c.loop-texts.invariant.ends is
          ∙ by_inner c.args.profile n code (bytes_in text found.inside) (record { at = found.at - found.inside.from; wrong = found.wrong }) (c.loop-texts.invariant.first is) wrong (omega arith)
          ∙ ap (misspelt_within c.args.profile (n - 1) code) (sym c.text_put-inside.ensures.text);
    }

pub returns-else-is_in_text-clause-itself : goal.returns-else-is_in_text-clause-itself
returns-else-is_in_text-clause-itself c =
    let found = c.loop-texts.found in
    sym (c.loop-texts.invariant.itself
    ∙ deepest c.args.profile c.loop-texts.texts c.args.code.now c.args.text.now found (inr (sym c.is_in_text.ensures ∙ c.if-is_in_text.false)))

pub returns-else-is_in_text-clause-ends : goal.returns-else-is_in_text-clause-ends
returns-else-is_in_text-clause-ends c = λ is.
    let found = c.loop-texts.found in
    ends_by c.args.profile c.loop-texts.texts c.args.code.now (bytes_in c.args.text.now found.inside) (found.at - found.inside.from) found.wrong (c.loop-texts.invariant.first is)
    (inr (sym c.is_in_text.ensures ∙ c.if-is_in_text.false)) ∙ sym (c.loop-texts.invariant.ends is)

pub returns-after-loop-texts-clause-itself : goal.returns-after-loop-texts-clause-itself
returns-after-loop-texts-clause-itself c =
    sym (c.loop-texts.invariant.itself ∙ deepest c.args.profile c.loop-texts.texts c.args.code.now c.args.text.now c.loop-texts.found (inl (omega arith)))

pub returns-after-loop-texts-clause-ends : goal.returns-after-loop-texts-clause-ends
returns-after-loop-texts-clause-ends c = λ is.
    let found = c.loop-texts.found in
    ends_by c.args.profile c.loop-texts.texts c.args.code.now (bytes_in c.args.text.now found.inside) (found.at - found.inside.from) found.wrong (c.loop-texts.invariant.first is)
    (inl (omega arith)) ∙ sym (c.loop-texts.invariant.ends is)
