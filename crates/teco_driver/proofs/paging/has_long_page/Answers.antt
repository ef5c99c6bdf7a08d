use Rattle.std.proofs.Common.{arith}
use Rattle.std.proofs.lemmas.Bool.Decides.{nat_tests}
use Rattle.teco_driver.specs.Paging.{is_form_feed}
use Rattle.teco_driver.proofs.Parts.{within_text}
use Rattle.teco_driver.proofs.paging.has_long_page.Goals as goal

pub returns-else-input-gt-TEXT_LIMIT : goal.returns-else-input-gt-TEXT_LIMIT
returns-else-input-gt-TEXT_LIMIT c =
    let w = within_text is_form_feed 0 c.args.input.now in
    let short = c.if-input-gt-TEXT_LIMIT.false in
    grind (arith, nat_tests)
