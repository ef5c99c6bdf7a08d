use Rattle.std.proofs.Common.{◌≡◌, ◌∷◌, [], ◌++◌, Some, ap, arith, sym, ◌∙◌}
use Rattle.teco_scan.specs.declared.stream.HistoryMove.TheVariants.{Undo, Redo, Rewind}
use Rattle.teco_scan.proofs.StreamCounts.{history_asked-digits}
use Rattle.teco_scan.proofs.stream.history_asked.Goals as goal

pub returns-in-123 : goal.returns-in-123
returns-in-123 c =
    let ds = c.in_ok-last.digits.now in
    let parts : c.args.bytes.now ≡ ds ++ 123 ∷ [] = c.in_ok-last.ensures.cases.0 ∙ ap (λ b. ds ++ b ∷ []) c.in-123.is in
    ap (λ n. Some (Undo n)) c.times.ensures ∙ sym (history_asked-digits c.args.bytes.now ds 123 parts (omega arith) (sym c.are_digits.ensures ∙ c.if-not-are_digits.false))

pub returns-in-125 : goal.returns-in-125
returns-in-125 c =
    let ds = c.in_ok-last.digits.now in
    let parts : c.args.bytes.now ≡ ds ++ 125 ∷ [] = c.in_ok-last.ensures.cases.0 ∙ ap (λ b. ds ++ b ∷ []) c.in-125.is in
    ap (λ n. Some (Redo n)) c.times-in-125.ensures ∙ sym (history_asked-digits c.args.bytes.now ds 125 parts (omega arith) (sym c.are_digits.ensures ∙ c.if-not-are_digits.false))

pub returns-in-126 : goal.returns-in-126
returns-in-126 c =
    let ds = c.in_ok-last.digits.now in
    let parts : c.args.bytes.now ≡ ds ++ 126 ∷ [] = c.in_ok-last.ensures.cases.0 ∙ ap (λ b. ds ++ b ∷ []) c.in-126.is in
    ap (λ n. Some (Rewind n)) c.number.ensures ∙ sym (history_asked-digits c.args.bytes.now ds 126 parts (omega arith) (sym c.are_digits.ensures ∙ c.if-not-are_digits.false))
