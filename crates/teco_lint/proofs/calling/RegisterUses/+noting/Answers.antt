use Rattle.std.proofs.Common.{List, ℕ, drop, sym, subst, arith}
use Rattle.std.proofs.lemmas.List.{drop_all}
use Rattle.teco_scan.specs.Seen.{meaning_in}
use Rattle.teco_lint.proofs.Noted.{OfBytes, token_noted, fault_noted, end_noted, nothing_noted, past_fault}
use Rattle.teco_lint.proofs.calling.RegisterUses.+noting.Goals as goal

pub note_text-loop-at-preserved-in-Token : goal.note_text-loop-at-preserved-in-Token
note_text-loop-at-preserved-in-Token t c = λ later rest.
    let text = c.args.text.now in
    let token = c.in-Token.token in
    c.loop-at.invariant later (token_noted c.args.profile (drop c.loop-at.at text) (drop token.span.to text) (meaning_in text token)
    c.loop-at.self.called c.note_token.new.self.called later (sym c.in-Token.ensures.read) c.note_token.ensures rest)

pub note_text-returns-in-End : goal.note_text-returns-in-End
note_text-returns-in-End t c =
    c.loop-at.invariant c.loop-at.self.called (end_noted c.args.profile (drop c.loop-at.at c.args.text.now) c.loop-at.self.called (sym c.in-End.ensures.read))

pub note_text-loop-at-preserved : goal.note_text-loop-at-preserved
note_text-loop-at-preserved t c = λ later rest.
    let text = c.args.text.now in
    c.loop-at.invariant later (fault_noted c.args.profile (drop c.loop-at.at text) c.in-Fault.field-0 c.loop-at.self.called later (sym c.in-Fault.ensures.read)
    (subst (λ (bs : List ℕ). OfBytes c.args.profile bs c.loop-at.self.called later)
    (past_fault _ c.filler_end.result c.saturating_add-at.result text _ c.saturating_add-at.ensures (omega arith) c.filler_end.ensures.read) rest))

pub note_text-returns : goal.note_text-returns
note_text-returns t c =
    c.loop-at.invariant c.loop-at.self.called
    (nothing_noted c.args.profile (drop c.loop-at.at c.args.text.now) c.loop-at.self.called (drop_all c.loop-at.at c.args.text.now (omega arith)))
