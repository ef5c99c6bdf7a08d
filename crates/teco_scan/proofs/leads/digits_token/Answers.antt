use Rattle.std.proofs.Common.{sym, ap, ◌∙◌}
use Rattle.teco_scan.specs.Scan.{rows_of, scanned}
use Rattle.teco_scan.specs.Seen.{found_in}
use Rattle.teco_scan.proofs.Places.{scan_found}
use Rattle.teco_scan.proofs.FirstRow.{run_read}
use Rattle.teco_scan.proofs.leads.digits_token.Goals as goal

pub returns-clause-read : goal.returns-clause-read
returns-clause-read c p =
    let text = c.args.text.now in
    let from = c.args.from in
    ap (found_in text) c.plain.ensures
    ∙ sym (ap scanned (run_read (rows_of p) text from c.digits_end-to.result c.requires.begins.inside c.requires.first c.digits_end-to.ensures.read c.digits_end-to.ensures.run))
    ∙ sym (scan_found p text c.args.at from c.requires.begins.inside c.requires.begins.rest)
