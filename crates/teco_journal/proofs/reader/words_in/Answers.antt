use Rattle.std.proofs.Common.{◌≡◌, ℕ, ◌-◌, ◌<◌, true, List, length, length-drop, take, drop, get_or, sym, ap, ◌∙◌, arith}
use Rattle.std.proofs.lemmas.List.{take_all}
use Rattle.std.proofs.lemmas.Slice.Eq.{bytes_eq-Decides}
use Rattle.teco_journal.specs.Lines.{check_of, line_of}
use Rattle.teco_journal.proofs.InLine.{line_long, line_blank, line_check, line_words, is_line_of}
use Rattle.teco_journal.proofs.reader.words_in.Goals as goal
use Rattle.teco_journal.proofs.reader.words_in.Goals.{then-line-le-CHECK_LENGTH-via-then-line-le-CHECK_LENGTH, then-line-le-CHECK_LENGTH-via-else-line-le-CHECK_LENGTH+then-line-ne32}

pub returns-then-line-le-CHECK_LENGTH : goal.returns-then-line-le-CHECK_LENGTH
returns-then-line-le-CHECK_LENGTH c = λ words is.
    let long : 16 < length c.args.line.now = line_long c.args.last.now words c.args.line.now is in
    let blank : get_or c.args.line.now 16 0 ≡ 32 = line_blank c.args.last.now words c.args.line.now is in
    elim c.then-line-le-CHECK_LENGTH.branch [
      | then-line-le-CHECK_LENGTH-via-then-line-le-CHECK_LENGTH w ↦ absurd (omega arith)
      | then-line-le-CHECK_LENGTH-via-else-line-le-CHECK_LENGTH+then-line-ne32 w ↦ absurd (omega arith)
    ]

rest_of : (line : List ℕ) (n : ℕ) → take (length line - n) (drop n line) ≡ drop n line
rest_of line n = take_all (length line - n) (drop n line) (let left : length (drop n line) ≡ length line - n = length-drop n line in omega arith)

pub returns-then-eq : goal.returns-then-eq
returns-then-eq c =
    let line = c.args.line.now in
    let last = c.args.last.now in
    let same : take 16 c.args.line.now ≡ c.as_slice.result.now = (bytes_eq-Decides (take 16 c.args.line.now) c.as_slice.result.now).0 (sym c.eq.ensures ∙ c.if-eq.true) in
    let long : 16 < length c.args.line.now = omega arith in
    let blank : get_or c.args.line.now 16 0 ≡ 32 = omega arith in
    (is_line_of last line long blank (same ∙ c.as_slice.ensures ∙ c.check_of-check.ensures ∙ ap (check_of last) (rest_of line 17)) ∙ ap (line_of last) (sym (rest_of line 17)), c.check_of-check.ensures)

pub returns-else-eq : goal.returns-else-eq
returns-else-eq c = λ words is.
    let line = c.args.line.now in
    let last = c.args.last.now in
    let same : take 16 c.args.line.now ≡ c.as_slice.result.now =
    line_check last words line is ∙ ap (check_of last) (sym (rest_of line 17 ∙ line_words last words line is)) ∙ sym c.check_of-check.ensures ∙ sym c.as_slice.ensures in
    let yes : c.eq.result ≡ true = c.eq.ensures ∙ (bytes_eq-Decides (take 16 c.args.line.now) c.as_slice.result.now).1 same in
    cc
