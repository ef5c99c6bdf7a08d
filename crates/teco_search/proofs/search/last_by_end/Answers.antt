use Rattle.teco_search.proofs.Begins.{ready_backward, literal_ending_by-none, literal_ending_by-some}
use Rattle.teco_search.proofs.search.last_by_end.Goals as goal

pub returns-in_default-clause-value : goal.returns-in_default-clause-value
returns-in_default-clause-value g c =
    let ready = ready_backward c.in-Literal.field-0 c.in-Literal.finder c.args.search.now c.in-Literal.is c.requires.ready in
    rw c.in-Literal.is (literal_ending_by-none c.in-Literal.field-0 c.in-Literal.finder c.args.text.now ready.some ready.exact c.args.to c.in_default.ensures)

pub returns-in-Some-clause-value : goal.returns-in-Some-clause-value
returns-in-Some-clause-value g c =
    let ready = ready_backward c.in-Literal.field-0 c.in-Literal.finder c.args.search.now c.in-Literal.is c.requires.ready in
    rw (c.needle.ensures, c.in-Literal.is) (literal_ending_by-some c.in-Literal.field-0 c.in-Literal.finder c.args.text.now ready.some ready.exact c.args.to c.in-Some.start c.in-Some.ensures)
