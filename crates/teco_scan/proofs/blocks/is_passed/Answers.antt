use Rattle.std.proofs.Common.{sym, ap, ◌∙◌}
use Rattle.teco_scan.proofs.Passing.{filler_passed, digit_passed, bare_passed, escape_passed}
use Rattle.teco_scan.specs.Led.{form_in}
use Rattle.teco_scan.proofs.blocks.is_passed.Goals as goal
use Rattle.teco_scan.proofs.blocks.is_passed.Goals.{then-is_filler-via-then-is_filler, then-is_filler-via-else-is_filler+then-is_ascii_digit}

pub returns-then-is_filler : goal.returns-then-is_filler
returns-then-is_filler c t p bs = elim c.then-is_filler.branch [
  | then-is_filler-via-then-is_filler w ↦ filler_passed p c.args.b bs (sym c.is_filler.ensures ∙ w.if-is_filler.true)
  | then-is_filler-via-else-is_filler+then-is_ascii_digit w ↦ digit_passed p c.args.b bs (sym w.is_ascii_digit.ensures.value ∙ w.if-is_ascii_digit.true)
]

pub returns-in-Some-Bare : goal.returns-in-Some-Bare
returns-in-Some-Bare c t p bs =
    bare_passed p c.args.b bs (form_in p c.in-Some-Bare.field-0) c.in-Some-Bare.field-0-0 (sym c.is_filler.ensures ∙ c.if-is_filler.false) (sym c.is_ascii_digit.ensures.value ∙ c.if-is_ascii_digit.false) (c.in-Some-Bare.ensures p bs) (ap (form_in p) c.in-Some-Bare.field-0-is)

pub returns-in-Some-Escape : goal.returns-in-Some-Escape
returns-in-Some-Escape c t p bs =
    escape_passed p c.args.b bs (form_in p c.in-Some-Escape.field-0) (sym c.is_filler.ensures ∙ c.if-is_filler.false) (sym c.is_ascii_digit.ensures.value ∙ c.if-is_ascii_digit.false) (c.in-Some-Escape.ensures p bs) (ap (form_in p) c.in-Some-Escape.field-0-is)
