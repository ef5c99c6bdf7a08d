use Rattle.std.proofs.Common.{inl, refl, rules}
use Rattle.std.specs.String.{string_bytes}
use Rattle.teco_driver.proofs.looking.status_if_misspelt.Goals as goal

pub returns-then-verdict-clause-rejected : goal.returns-then-verdict-clause-rejected
returns-then-verdict-clause-rejected g c = (search rules, inl (refl, search rules, (string_bytes c.in-Ok.verdict.lines, search rules)))
