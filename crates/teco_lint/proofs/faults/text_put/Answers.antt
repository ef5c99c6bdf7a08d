use Rattle.std.proofs.Common.{◌≡◌, ◌+◌, ◌-◌, ℕ, length, take, drop, ap, ◌∙◌, rules, arith}
use Rattle.std.proofs.lemmas.List.{drop_all}
use Rattle.teco_scan.specs.Scan.{after_fillers, scan}
use Rattle.teco_scan.specs.Seen.{IsSpanIn, bytes_in}
use Rattle.teco_lint.specs.Spelling.{put_first}
use Rattle.teco_lint.proofs.FirstFaults.{empty_part, part_of_part}
use Rattle.teco_lint.proofs.faults.text_put.Goals as goal

pub returns-then-at-inside-clause-span : goal.returns-then-at-inside-clause-span
unfolding scan after_fillers
returns-then-at-inside-clause-span c =
    rw (drop_all (c.args.fault.now.at - c.args.fault.now.inside.from) (bytes_in c.args.text.now c.args.fault.now.inside) (omega (arith, c.if-at-inside.true, c.saturating_sub-at.ensures)))
    (let same : c.args.fault.now.inside.from ≡ c.args.fault.now.inside.from + 0 = omega arith in ap (λ (n : ℕ). record { from = n; to = n }) same)

pub returns-then-at-inside-clause-text : goal.returns-then-at-inside-clause-text
unfolding scan after_fillers
returns-then-at-inside-clause-text c =
    rw (drop_all (c.args.fault.now.at - c.args.fault.now.inside.from) (bytes_in c.args.text.now c.args.fault.now.inside) (omega (arith, c.if-at-inside.true, c.saturating_sub-at.ensures)))
    (empty_part c.args.fault.now.inside.from c.args.text.now)

pub returns-in-Item-SetText-clause-text : goal.returns-in-Item-SetText-clause-text
returns-in-Item-SetText-clause-text c =
    let text = c.args.text.now in
    let whole = c.args.fault.now.inside in
    let span = c.in-Item-SetText.span in
    let put : take (span.to - span.from) (drop span.from (bytes_in text whole)) ≡ put_first (scan c.args.profile (drop (c.args.fault.now.at - whole.from) (bytes_in text whole))) = search rules in
    let long : length (bytes_in text whole) ≡ whole.to - whole.from = search rules in
    let spans : IsSpanIn (length (bytes_in text whole)) span = search rules in
    part_of_part span.from span.to whole.from whole.to text spans.ordered (omega (arith, spans.inside, long)) ∙ put
