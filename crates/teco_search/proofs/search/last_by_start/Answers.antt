use Rattle.std.proofs.Common.{◌≡◌, ◌+◌, ◌-◌, length, ap, ◌∙◌}
use Rattle.std.specs.Prelude.{min}
use Rattle.teco_search.proofs.Begins.{ready_backward, literal_backward-none, literal_backward-some}
use Rattle.teco_search.proofs.search.last_by_start.Goals as goal

pub returns-in_default-clause-value : goal.returns-in_default-clause-value
returns-in_default-clause-value g c =
    let ready = ready_backward c.in-Literal.field-0 c.in-Literal.finder c.args.search.now c.in-Literal.is c.requires.ready in
    let to : c.args.from + c.min.result ≡ c.args.from + min (length c.in-Literal.finder) (length c.args.text.now - c.args.from) = ap (λ n. c.args.from + n) (c.min.ensures ∙ ap (λ m. min m (c.len.result - c.args.from)) (ap length c.needle-len.ensures) ∙ ap (λ m. min (length c.in-Literal.finder) (m - c.args.from)) c.len.ensures.value) in
    rw c.in-Literal.is (literal_backward-none c.in-Literal.field-0 c.in-Literal.finder c.args.text.now ready.some ready.exact c.args.from (c.args.from + c.min.result) to c.in_default.ensures)

pub returns-in-Some-clause-value : goal.returns-in-Some-clause-value
returns-in-Some-clause-value g c =
    let ready = ready_backward c.in-Literal.field-0 c.in-Literal.finder c.args.search.now c.in-Literal.is c.requires.ready in
    let to : c.args.from + c.min.result ≡ c.args.from + min (length c.in-Literal.finder) (length c.args.text.now - c.args.from) = ap (λ n. c.args.from + n) (c.min.ensures ∙ ap (λ m. min m (c.len.result - c.args.from)) (ap length c.needle-len.ensures) ∙ ap (λ m. min (length c.in-Literal.finder) (m - c.args.from)) c.len.ensures.value) in
    rw (c.needle-len.ensures, c.in-Literal.is) (literal_backward-some c.in-Literal.field-0 c.in-Literal.finder c.args.text.now ready.some ready.exact c.args.from (c.args.from + c.min.result) c.in-Some.start to c.in-Some.ensures)
