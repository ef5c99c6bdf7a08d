use Rattle.std.proofs.Common.{◌≡◌, ◌+◌, ◌-◌, length, ap, ◌∙◌}
use Rattle.std.specs.Prelude.{min}
use Rattle.teco_search.proofs.Windows.{first_to}
use Rattle.teco_search.proofs.literal.first_across.Goals as goal

pub returns-then-saturating_sub-le-FEW : goal.returns-then-saturating_sub-le-FEW
returns-then-saturating_sub-le-FEW c =
    let end : c.min-end.result ≡ min c.args.to (length c.args.text.now + 1 - length c.args.bytes.now) =
    c.min-end.ensures ∙ ap (min c.args.to) (c.saturating_sub.ensures ∙ ap (λ n. n + 1 - length c.args.bytes.now) c.len.ensures.value) in
    first_to c.args.text.now c.args.bytes.now c.args.from c.args.to c.min-end.result end c.first_compared.result c.first_compared.ensures

pub returns-else-saturating_sub-le-FEW : goal.returns-else-saturating_sub-le-FEW
returns-else-saturating_sub-le-FEW c =
    let end : c.min-end.result ≡ min c.args.to (length c.args.text.now + 1 - length c.args.bytes.now) =
    c.min-end.ensures ∙ ap (min c.args.to) (c.saturating_sub.ensures ∙ ap (λ n. n + 1 - length c.args.bytes.now) c.len.ensures.value) in
    first_to c.args.text.now c.args.bytes.now c.args.from c.args.to c.min-end.result end c.first_told.result c.first_told.ensures
