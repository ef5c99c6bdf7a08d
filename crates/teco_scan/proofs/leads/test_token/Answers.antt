use Rattle.std.proofs.Common.{drop, ◌+◌, ap, ◌∙◌}
use Rattle.teco_scan.specs.Seen.{found_in}
use Rattle.teco_scan.proofs.FirstRow.{led_read, test_read}
use Rattle.teco_scan.proofs.leads.test_token.Goals as goal

pub returns-in-Ok-clause-read : goal.returns-in-Ok-clause-read
returns-in-Ok-clause-read c =
    ap (found_in c.args.text.now) c.plain.ensures
    ∙ led_read c.args.profile c.args.text.now c.args.at c.args.from _ _ c.requires (test_read c.args.profile (drop (c.args.from + 1) c.args.text.now) _ c.in-Ok.ensures.read)
