use Rattle.std.proofs.Common.{ap, ◌∙◌, refl}
use Rattle.teco_scan.specs.Scan.{operand_at}
use Rattle.teco_scan.specs.Seen.{found_in}
use Rattle.teco_scan.proofs.FirstRow.{led_read}
use Rattle.teco_scan.proofs.leads.escape_token.Goals as goal

pub returns-clause-read : goal.returns-clause-read
unfolding operand_at
returns-clause-read c p = ap (found_in c.args.text.now) c.plain.ensures ∙ led_read p c.args.text.now c.args.at c.args.from _ _ c.requires refl
