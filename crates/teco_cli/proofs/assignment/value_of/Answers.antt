use Rattle.std.proofs.Common.{◌∙◌, ap, sym, true≢false, not, length}
use Rattle.std.specs.Prelude.{◌==◌}
use Rattle.std.proofs.lemmas.Slice.Eq.{bytes_eq-Decides}
use Rattle.teco_cli.proofs.Assigning.{assigns_nothing}
use Rattle.teco_cli.proofs.assignment.value_of.Goals as goal

pub returns-then-ne : goal.returns-then-ne
returns-then-ne c =
    let before = c.args.before.now in
    let colon = c.as_slice.result.now in
    assigns_nothing before c.args.text.now c.requires.first
    (λ e. true≢false (sym (ap (λ t. length t == 0) e) ∙ (sym c.is_empty.ensures ∙ c.if-is_empty.false)))
    (λ e. true≢false (sym c.if-ne.true ∙ (c.ne.ensures ∙ ap not ((bytes_eq-Decides before colon).1 (e ∙ sym c.as_slice.ensures)))))
