use Rattle.std.proofs.Common.{drop, ◌+◌, ap, ◌∙◌, refl}
use Rattle.teco_scan.specs.Seen.{found_in}
use Rattle.teco_scan.proofs.FirstRow.{led_read, register_read}
use Rattle.teco_scan.proofs.leads.register_token.Goals as goal

pub returns-in-Ok-clause-read : goal.returns-in-Ok-clause-read
returns-in-Ok-clause-read c p =
    ap (found_in c.args.text.now) c.plain.ensures
    ∙ led_read p c.args.text.now c.args.at c.args.from _ _ c.requires (register_read _ c.args.command (drop (c.args.from + 1) c.args.text.now) _ refl c.in-Ok.ensures.read)
