use Rattle.std.proofs.Common.{◌&&◌, Bool, is_some, not, ap, sym, ◌∙◌}
use Rattle.teco_scan.specs.Stream.{asks_of, is_run, move_asked}
use Rattle.teco_scan.proofs.Streams.{not-is_run}
use Rattle.teco_lint.proofs.requests.is_request.Goals as goal

pub returns-then-ends_in_escape : goal.returns-then-ends_in_escape
returns-then-ends_in_escape c =
    let string = c.args.string.now in
    c.is_some.ensures ∙ ap is_some c.move_asked.ensures ∙ sym (not-is_run string (move_asked string))
    ∙ ap (λ (ends : Bool). ends && not (is_run (asks_of string))) (sym c.if-ends_in_escape.true ∙ c.ends_in_escape.ensures)

pub returns-else-ends_in_escape : goal.returns-else-ends_in_escape
returns-else-ends_in_escape c =
    c.if-ends_in_escape.false
    ∙ ap (λ (ends : Bool). ends && not (is_run (asks_of c.args.string.now))) (sym c.if-ends_in_escape.false ∙ c.ends_in_escape.ensures)
