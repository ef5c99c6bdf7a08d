use Rattle.std.proofs.Common.{ℕ, subst}
use Rattle.teco_driver.specs.SessionLines.{TellsOrLacks, opening_lines}
use Rattle.teco_driver.proofs.Sessions.{tells_either}
use Rattle.teco_driver.proofs.keeping.tell_opened.Goals as goal

pub returns : goal.returns
returns g c =
    let opened = c.args.opened.now in
    subst (λ (strings : ℕ). TellsOrLacks (g.E.Terminal.screen c.args.errors.now) (g.E.Terminal.screen c.tell.new.errors)
    (opening_lines c.args.line.now opened.torn opened.records strings)) c.cursor-strings.ensures.value
    (tells_either _ _ _ c.opening_lines-lines.result c.opening_lines-lines.ensures c.tell.ensures.ok c.tell.ensures.err)
