use Rattle.std.proofs.Common.{[], sym, ◌∙◌, append-nil}
use Rattle.teco_journal.proofs.Digits.{empty_number, no_front, some_digits}
use Rattle.teco_journal.proofs.head_reader.fault_in_number.Goals as goal

pub returns-then-is_empty : goal.returns-then-is_empty
returns-then-is_empty c = empty_number c.args.digits.now (sym c.is_empty.ensures ∙ c.if-is_empty.true)

pub returns-in-Some : goal.returns-in-Some
returns-in-Some c = (c.in-Some.field-0, c.in-Some.ensures.0, [], sym c.in-Some.ensures.1 ∙ sym (append-nil c.args.digits.now))

pub returns-in-None : goal.returns-in-None
returns-in-None c = no_front c.args.digits.now (some_digits c.args.digits.now (sym c.is_empty.ensures ∙ c.if-is_empty.false)) c.in-None.ensures
