use Rattle.teco_search.proofs.Begins.{ready_forward, literal_forward-none, literal_forward-some}
use Rattle.teco_search.proofs.search.first_from.Goals as goal

pub returns-in_default-clause-value : goal.returns-in_default-clause-value
returns-in_default-clause-value g c =
    let ready = ready_forward c.in-Literal.field-0 c.in-Literal.finder c.args.search.now c.in-Literal.is c.requires.ready in
    rw c.in-Literal.is (literal_forward-none c.in-Literal.field-0 c.in-Literal.finder c.args.text.now ready.some ready.exact c.args.from c.in_default.ensures.value)

pub returns-in-Some-clause-value : goal.returns-in-Some-clause-value
returns-in-Some-clause-value g c =
    let ready = ready_forward c.in-Literal.field-0 c.in-Literal.finder c.args.search.now c.in-Literal.is c.requires.ready in
    rw (c.needle.ensures, c.in-Literal.is) (literal_forward-some c.in-Literal.field-0 c.in-Literal.finder c.args.text.now ready.some ready.exact c.args.from c.in-Some.start c.in-Some.ensures.value)
