use Rattle.std.proofs.Common.{Some, None, subst}
use Rattle.memchr.specs.Find.{FindsNeedle}
use Rattle.teco_search.proofs.Begins.{literal_first-none, literal_first-some}
use Rattle.teco_search.proofs.as_it_stands.first_exact.Goals as goal

pub returns-in_err-start-clause-value : goal.returns-in_err-start-clause-value
returns-in_err-start-clause-value c mode literal =
    let bytes = c.args.bytes.now in
    let text = c.args.text.now in
    let first : FindsNeedle text bytes c.args.from None = subst (λ bs. FindsNeedle text bs c.args.from None) c.new.ensures c.in_err-start.ensures.value in
    rw c.from_residual.ensures (literal_first-none mode bytes text literal.some literal.exact c.args.from first)

pub returns-clause-value : goal.returns-clause-value
returns-clause-value c mode literal =
    let bytes = c.args.bytes.now in
    let text = c.args.text.now in
    let start = c.in_ok-start.start in
    let first : FindsNeedle text bytes c.args.from (Some start) = subst (λ bs. FindsNeedle text bs c.args.from (Some start)) c.new.ensures c.in_ok-start.ensures.value in
    literal_first-some mode bytes text literal.some literal.exact c.args.from start first
