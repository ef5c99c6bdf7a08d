use Rattle.std.proofs.Common.{sym, ◌∙◌, arith, rules}
use Rattle.teco_search.proofs.PlainBytes.{bytes_past, bytes_other, bytes_more, bytes_done}
use Rattle.teco_search.proofs.plain_bytes.match_at.Goals as goal

pub returns-in_default-clause-none : goal.returns-in_default-clause-none
returns-in_default-clause-none c = sym c.bytes.invariant ∙ bytes_past c.args.mode c.args.bytes.now c.bytes.byte-index c.args.text.now c.bytes.place (omega arith) (search rules)

pub returns-then-not-admits-clause-none : goal.returns-then-not-admits-clause-none
returns-then-not-admits-clause-none c =
    sym c.bytes.invariant
    ∙ bytes_other c.args.mode c.args.bytes.now c.bytes.byte-index c.args.text.now c.bytes.place (omega arith) c.in-Some.here (sym c.in-Some.ensures.value) (sym c.if-not-admits.ensures)

pub bytes-preserved : goal.bytes-preserved
bytes-preserved c =
    sym (bytes_more c.args.mode c.args.bytes.now c.bytes.byte-index c.args.text.now c.bytes.place (omega arith) c.in-Some.here (sym c.in-Some.ensures.value) (sym c.if-not-admits.ensures))
    ∙ c.bytes.invariant

pub returns-clause-some : goal.returns-clause-some
returns-clause-some c = sym c.bytes.invariant ∙ bytes_done c.args.mode c.args.bytes.now c.bytes.byte-index c.args.text.now c.bytes.place (omega arith)
