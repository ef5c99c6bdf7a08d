use Rattle.std.proofs.Common.{◌+◌, sym, ap, ◌∙◌, arith}
use Rattle.teco_core.specs.Ascii.{is_digit}
use Rattle.teco_scan.specs.Seen.{found_in}
use Rattle.teco_scan.specs.Scan.{rows_of}
use Rattle.teco_scan.proofs.Places.{scan_found}
use Rattle.teco_scan.proofs.FirstRow.{named_read, replace_here}
use Rattle.teco_scan.proofs.leads.replace_token.Goals as goal

pub returns-in-Ok-clause-read : goal.returns-in-Ok-clause-read
returns-in-Ok-clause-read c p =
    let text = c.args.text.now in
    let from = c.args.from in
    ap (found_in text) c.plain.ensures
    ∙ named_read (rows_of p) text from (from + 2) _ _ c.requires.inside (ap is_digit c.if-text-from-ne70.false)
    (replace_here p text from (omega (arith, c.if-text-from-lt2.false)) c.if-text-from-ne70.false c.if-text-from-ne83.false) c.in-Ok.ensures.read
    ∙ sym (scan_found p text c.args.at from c.requires.inside c.requires.rest)

pub returns-in-Ok-clause-place : goal.returns-in-Ok-clause-place
returns-in-Ok-clause-place c =
    let placed = c.in-Ok.ensures.placed c.args.from in
    grind arith
